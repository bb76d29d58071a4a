-- The exchanges with all nodes of a bus, through the events and the delivery of an instant.
use Rattle.std.proofs.Common.{◌≡◌, ℕ, ◌<◌, Bool, true, false, List, [], ◌∷◌, ◌++◌, Option, Some, None}
use Rattle.std.proofs.Common.{◌⊎◌, inl, inr, refl, sym, ap, ◌∙◌, subst, map, length}
use Rattle.std.specs.Prelude.{◌==◌, if◌then◌else◌}
use Rattle.std.specs.List.{AllByRecursion, flat_map}
use Rattle.std.proofs.lemmas.List.{get_or-map, length-map}
use Rattle.std.proofs.lemmas.List.Elements.{All-nil}
use Rattle.image_parts.proofs.EachLemmas.{outcome_each}
use Rattle.image_parts.specs.Asking.{Answer, Asking, outcome}
use Rattle.image_parts.specs.Each.{each}
use Rattle.network_laws.proofs.NodeLemmas.{command_leaves}
use Rattle.network_laws.proofs.OwnLemmas.{command_owns, frame_owns as manager_frame_owns}
use Rattle.network_laws.proofs.OwnLemmas.{frame_stays as manager_frame_stays, timers_own, timers_stay}
use Rattle.network_laws.specs.Requests.{HasManagerFrames as ManagerOwns, StaysManager, requests_to}
use Rattle.bus_devices.proofs.EventLemmas.{happens_nmt, happens_set, outcome_events}
use Rattle.bus_devices.specs.Events.{after_event, after_events_at, after_power_at, after_set_at}
use Rattle.bus_devices.specs.Places.{device_at}
use Rattle.can_bus.specs.Bus.{delivered_of, manager_after_slot}
use Rattle.can_bus.specs.declared.slot.Slot.{Slot}
use Rattle.co_device.specs.Device.{Device, after_instant, after_power, after_set, without_power}
use Rattle.can_frame.specs.Senders.{device_sender, manager_sender}
use Rattle.co_device.specs.Receiving.{after_frame}
use Rattle.image_parts.specs.Contents.{Content, Image}
use Rattle.image_parts.specs.Images.{IsRoster}
use Rattle.image_parts.specs.declared.part.Part.{Part}
use Rattle.image_parts.specs.declared.roster.Roster.{Roster}
use Rattle.co_scenario.specs.declared.nmt_command.NmtCommand.{NmtCommand}
use Rattle.co_scenario.specs.declared.step.Step.{Step}
use Rattle.co_scenario.specs.declared.step.Step.TheVariants.{Set, Power, Nmt}
use Rattle.co_scenario.specs.declared.timed_step.TimedStep.{TimedStep}
use Rattle.device_agenda.specs.Agenda.{hears}
use Rattle.network_laws.specs.Own.{HasOwnFrames as DeviceOwns}
use Rattle.device_agenda.proofs.SelfLemmas.{frame_stays, instant_stays, power_switches, set_stays}
use Rattle.network_laws.specs.States.{HasBooted}
use Rattle.network_laws.specs.Writes.{writes_of_frame, writes_of_set}
use Rattle.network_laws.specs.Written.{AreOf, Written}
use Rattle.network_laws.specs.Marks.{MarkedEntries, after_writes, marked_after, writes_of_events, writes_of_step}
use Rattle.network_laws.specs.Marks.{written_at, written_by_frame}
use Rattle.network_laws.proofs.DeviceLemmas.{exchange_left}
use Rattle.network_laws.proofs.MarkLemmas.{after_told, one_of_them, told}
use Rattle.network_laws.proofs.Others.{frame_owns, frame_writes_own, instant_owns, power_owns, set_leaves, set_owns}
use Rattle.network_laws.proofs.Others.{set_writes_own, switch_does}
use Rattle.network_laws.proofs.RosterLemmas.{IsAt, IsOf, IsOwned, device_numbers, kind_of, stands_at}
use Rattle.network_laws.proofs.SwitchLemmas.{switch_holds}
use Rattle.network_laws.proofs.TurnLemmas.{Ex, boot_left, booted_exchanges, dark_exchanges, delivery_turns}
use Rattle.network_laws.proofs.TurnLemmas.{device_runs, manager_runs}
use Rattle.nmt_boot.specs.Manager.{Manager, timers, with_command}
use Rattle.manager_nodes.specs.Table.{node_at}
use Rattle.nmt_boot.specs.Manager as manager

-- the exchange with each node of the bus
abbrev pub AllExchange : Image → MarkedEntries → List Device → Manager → Option Slot → Type 0
AllExchange image marks ds m wire = (i : ℕ) → i < length ds
    → Ex image (device_at ds i).number (marks (device_at ds i).number) (device_at ds i) m i wire

pub record IsGood (image : Image) (roster : Roster) (marks : MarkedEntries) (ds : List Device) (m : Manager)
    (wire : Option Slot) : Type 0 where
  pub sound : IsOf roster ds m wire
  pub exchanges : AllExchange image marks ds m wire

-- ---- each of a list of devices

pub each_is_map : (image : Image) (step : Device → Asking Part Content Device) (ds : List Device)
    → outcome (each step ds) image ≡ map (λ d. outcome (step d) image) ds
each_is_map image step [] = refl
each_is_map image step (d ∷ ds) =
    outcome_each step d ds image ∙ ap (λ (rest : List Device). outcome (step d) image ∷ rest) (each_is_map image step ds)

module _ (f : Device → Device) where
  mapped_at : (ds : List Device) (i : ℕ) → i < length ds → device_at (map f ds) i ≡ f (device_at ds i)
  mapped_at ds i l = get_or-map f ds i (without_power false 0) (without_power false 0) l

  mapped_numbers : ((d : Device) → (f d).number ≡ d.number) → (ds : List Device)
      → device_numbers (map f ds) ≡ device_numbers ds
  mapped_numbers same [] = refl
  mapped_numbers same (d ∷ ds) =
      ap (λ (n : ℕ). n ∷ device_numbers (map f ds)) (same d)
      ∙ ap (λ (ns : List ℕ). d.number ∷ ns) (mapped_numbers same ds)

  mapped_owns : ((d : Device) → DeviceOwns d → DeviceOwns (f d)) → (ds : List Device)
      → AllByRecursion DeviceOwns ds → AllByRecursion DeviceOwns (map f ds)
  mapped_owns owns [] h = tt
  mapped_owns owns (d ∷ ds) h = (owns d h.0, mapped_owns owns ds h.1)

-- ---- ONE STEP OF ALL: each device, the manager, and the wire

module _ (image : Image) (roster : Roster) (is : IsRoster roster) where
  abbrev Good : MarkedEntries → List Device → Manager → Option Slot → Type 0
  Good marks ds m wire = IsGood image roster marks ds m wire

  module _ (marks : MarkedEntries) (ds : List Device) (m m' : Manager) (wire wire' : Option Slot)
      (f : Device → Device) (writes : Device → List Written)
      (own : (d : Device) → AreOf d.number (writes d))
      (same : (d : Device) → (f d).number ≡ d.number)
      (owns : (d : Device) → DeviceOwns d → DeviceOwns (f d))
      (stays : StaysManager m m') (manager_owns : ManagerOwns m → ManagerOwns m')
      (sent : IsOwned roster wire → IsOwned roster wire')
      (turns : (i n : ℕ) → IsAt roster ds m i n → IsOf roster ds m wire → (after : ℕ × ℕ → Bool)
      → ((place : ℕ × ℕ) → after place ≡ told (marks n place) (writes (device_at ds i)) n place)
      → Ex image n (marks n) (device_at ds i) m i wire → Ex image n after (f (device_at ds i)) m' i wire') where
    abbrev later : MarkedEntries
    later = after_writes marks (flat_map writes ds)

    now_marked : (i n : ℕ) → IsAt roster ds m i n → (place : ℕ × ℕ)
        → later n place ≡ told (marks n place) (writes (device_at ds i)) n place
    now_marked i n at place =
        after_told marks (flat_map writes ds) n place
        ∙ one_of_them writes (λ (d : Device). d.number) own n place ds i (without_power false 0) at.within at.only
        (marks n place)

    one_turns : IsOf roster ds m wire → (i n : ℕ) → IsAt roster ds m i n
        → Ex image n (marks n) (device_at ds i) m i wire
        → Ex image n (later n) (f (device_at ds i)) m' i wire'
    one_turns o i n at h = turns i n at o (later n) (now_marked i n at) h

    as_many : length (map f ds) ≡ length ds
    as_many = length-map ds f

    turned : Good marks ds m wire → (i : ℕ) → i < length ds
        → Ex image (device_at (map f ds) i).number (later (device_at (map f ds) i).number)
        (device_at (map f ds) i) m' i wire'
    turned g i l =
        subst (λ (d : Device). Ex image d.number (later d.number) d m' i wire') (sym (mapped_at f ds i l))
        (subst (λ (n : ℕ). Ex image n (later n) (f (device_at ds i)) m' i wire') (sym (same (device_at ds i)))
        (one_turns g.sound i (device_at ds i).number (stands_at roster is ds m wire g.sound i l) (g.exchanges i l)))

    pub all_turn : Good marks ds m wire → Good later (map f ds) m' wire'
    all_turn g = record {
      sound = record {
        devices = mapped_numbers f same ds ∙ g.sound.devices;
        nodes = stays.numbers ∙ g.sound.nodes;
        manager = stays.number ∙ g.sound.manager;
        device_frames = mapped_owns f owns ds g.sound.device_frames;
        manager_frames = manager_owns g.sound.manager_frames;
        wire_frame = sent g.sound.wire_frame;
      };
      exchanges = λ i l. turned g i (subst (λ (k : ℕ). i < k) as_many l);
    }

  -- ---- events

  module _ (t : ℕ) (marks : MarkedEntries) (ds : List Device) (m : Manager) (wire : Option Slot) where
    nothing : (n : ℕ) → AreOf n []
    nothing n = All-nil (λ (w : Written). w.node ≡ n)

    unmoved : StaysManager m m
    unmoved = record { number = refl; numbers = refl }

    module _ (node : ℕ) (place : ℕ × ℕ) (bytes : List ℕ) where
      set_own : (d : Device) → AreOf d.number (written_at node place bytes d)
      set_own d = by (d.number == node)
        where
          by : (b : Bool) → AreOf d.number (if b then writes_of_set place bytes d else [])
          by true = set_writes_own place bytes d
          by false = nothing d.number

      set_same : (d : Device) → (after_set_at t node place bytes d).number ≡ d.number
      unfolding after_set_at
      set_same d = by (d.number == node)
        where
          by : (b : Bool) → (if b then after_set t place bytes d else d).number ≡ d.number
          by true = (set_stays t place bytes d).number
          by false = refl

      set_has : (d : Device) → DeviceOwns d → DeviceOwns (after_set_at t node place bytes d)
      unfolding after_set_at
      set_has d h = by (d.number == node)
        where
          by : (b : Bool) → DeviceOwns (if b then after_set t place bytes d else d)
          by true = set_owns t place bytes d h
          by false = h

      set_turns : (i n : ℕ) (d : Device) → d.number ≡ n → (after : ℕ × ℕ → Bool)
          → ((q : ℕ × ℕ) → after q ≡ told (marks n q) (written_at node place bytes d) n q)
          → Ex image n (marks n) d m i wire → Ex image n after (after_set_at t node place bytes d) m i wire
      unfolding after_set_at
      set_turns i n d of_node after now h = by (d.number == node) now
        where
          by : (b : Bool)
              → ((q : ℕ × ℕ) → after q ≡ told (marks n q) (if b then writes_of_set place bytes d else []) n q)
              → Ex image n after (if b then after_set t place bytes d else d) m i wire
          by true told_so =
              exchange_left image n (marks n) after d (after_set t place bytes d) (writes_of_set place bytes d) told_so
              (subst (λ k. AreOf k (writes_of_set place bytes d)) of_node (set_writes_own place bytes d))
              (set_leaves t place bytes d) (node_at m.nodes i).stage (requests_to n m.waiting) wire h
          by false told_so =
              subst (λ (marked : ℕ × ℕ → Bool). Ex image n marked d m i wire)
              (λ j q. sym (told_so q) j) h

      pub set_good : Good marks ds m wire
          → Good (after_writes marks (flat_map (written_at node place bytes) ds))
          (map (after_set_at t node place bytes) ds) m wire
      set_good g =
          all_turn marks ds m m wire wire (after_set_at t node place bytes) (written_at node place bytes) set_own
          set_same set_has unmoved (λ h. h) (λ h. h)
          (λ i n at o after now h. set_turns i n (device_at ds i) at.number after now h) g

    -- where nothing is written
    abbrev no_writes : Device → List Written
    no_writes d = []

    unwritten : (xs : List Device) → flat_map no_writes xs ≡ []
    unwritten [] = refl
    unwritten (x ∷ xs) = unwritten xs

    module _ (node : ℕ) (on : Bool) where
      abbrev switched : Device → Device
      switched d = outcome (after_power_at t node on d) image

      power_same : (d : Device) → (switched d).number ≡ d.number
      unfolding after_power_at
      power_same d = by (d.number == node)
        where
          by : (b : Bool) → (outcome (if b then after_power on t d else Answer d) image).number ≡ d.number
          by true = (power_switches image t d on).number
          by false = refl

      power_has : (d : Device) → DeviceOwns d → DeviceOwns (switched d)
      unfolding after_power_at
      power_has d h = by (d.number == node)
        where
          by : (b : Bool) → DeviceOwns (outcome (if b then after_power on t d else Answer d) image)
          by true = power_owns image t on d h
          by false = h

      power_turns : (i n : ℕ) (d : Device) (after : ℕ × ℕ → Bool) → ((q : ℕ × ℕ) → after q ≡ marks n q)
          → Ex image n (marks n) d m i wire → Ex image n after (switched d) m i wire
      unfolding after_power_at
      power_turns i n d after now h = by (d.number == node)
        where
          same : Ex image n after d m i wire
          same = subst (λ (marked : ℕ × ℕ → Bool). Ex image n marked d m i wire) (λ j q. sym (now q) j) h

          one : HasBooted d.number (outcome (after_power on t d) image)
              ⊎ ((outcome (after_power on t d) image ≡ d) ⊎ ((outcome (after_power on t d) image).has_power ≡ false))
              → Ex image n after (outcome (after_power on t d) image) m i wire
          one (inl booted) =
              booted_exchanges image n after (outcome (after_power on t d) image) d.number booted
              (node_at m.nodes i).stage (requests_to n m.waiting) wire
          one (inr (inl stays)) = subst (λ (e : Device). Ex image n after e m i wire) (sym stays) same
          one (inr (inr off)) =
              dark_exchanges image n after (outcome (after_power on t d) image) off (node_at m.nodes i).stage
              (requests_to n m.waiting) wire

          by : (b : Bool) → Ex image n after (outcome (if b then after_power on t d else Answer d) image) m i wire
          by true = one (switch_does image t on d)
          by false = same

      pub power_good : Good marks ds m wire → Good marks (outcome (each (after_power_at t node on) ds) image) m wire
      power_good g =
          subst (λ (xs : List Device). Good marks xs m wire) (sym (each_is_map image (after_power_at t node on) ds))
          (subst (λ (ws : List Written). Good (after_writes marks ws) (map switched ds) m wire) (unwritten ds)
          (all_turn marks ds m m wire wire switched no_writes (λ d. nothing d.number) power_same power_has unmoved
          (λ h. h) (λ h. h) (λ i n at o after now h. power_turns i n (device_at ds i) after now h) g))

    pub command_good : (node : ℕ) (c : NmtCommand) → Good marks ds m wire → Good marks ds (with_command c node m) wire
    command_good node c g = record {
      sound = record {
        devices = g.sound.devices;
        nodes = g.sound.nodes;
        manager = g.sound.manager;
        device_frames = g.sound.device_frames;
        manager_frames = command_owns c node m g.sound.manager_frames;
        wire_frame = g.sound.wire_frame;
      };
      exchanges = λ i l.
          boot_left image (device_at ds i).number (marks (device_at ds i).number) (device_at ds i) m
          (with_command c node m) i wire (stands_at roster is ds m wire g.sound i l).listed
          (command_leaves c node m i) (g.exchanges i l);
    }

    pub event_good : (step : Step) → Good marks ds m wire
        → Good (after_writes marks (writes_of_step step ds)) (outcome (after_event t step (ds, m)) image).0
        (outcome (after_event t step (ds, m)) image).1 wire
    event_good (Set node index sub bytes) g =
        rw (happens_set t ds m node index sub bytes) (set_good node (index, sub) bytes g)
    event_good (Power node on) g =
        switch_holds t ds m node on image (λ r. Good marks r.0 r.1 wire) g (power_good node on g)
    event_good (Nmt node c) g = rw (happens_nmt t ds m node c) (command_good node c g)

  pub after-append : (marks : MarkedEntries) (one other : List Written)
      → after_writes marks (one ++ other) ≡ after_writes (after_writes marks one) other
  after-append marks [] other = refl
  after-append marks (w ∷ one) other = after-append (λ node place. marked_after w node place (marks node place)) one other

  pub events_good : (t : ℕ) (steps : List TimedStep) (marks : MarkedEntries) (ds : List Device) (m : Manager)
      (wire : Option Slot) → Good marks ds m wire
      → Good (after_writes marks (writes_of_events image t steps (ds, m)))
      (outcome (after_events_at t steps (ds, m)) image).0 (outcome (after_events_at t steps (ds, m)) image).1 wire
  unfolding after_events_at
  events_good t [] marks ds m wire g = g
  events_good t (step ∷ steps) marks ds m wire g =
      let next : List Device × Manager = outcome (after_event t step.step (ds, m)) image in
      rw (outcome_events t step steps (ds, m) image)
      (subst (λ (now : MarkedEntries). Good now (outcome (after_events_at t steps next) image).0
      (outcome (after_events_at t steps next) image).1 wire)
      (sym (after-append marks (writes_of_step step.step ds) (writes_of_events image t steps next)))
      (events_good t steps (after_writes marks (writes_of_step step.step ds)) next.0 next.1 wire
      (event_good t marks ds m wire step.step g)))

  -- ---- the delivery, or an instant without one

  module _ (t : ℕ) (marks : MarkedEntries) (ds : List Device) (m : Manager) where
    -- no slot ends
    pub quiet_good : (wire : Option Slot) → Good marks ds m wire
        → Good marks (map (after_instant t) ds) (timers t m).0 wire
    quiet_good wire g =
        subst (λ (ws : List Written). Good (after_writes marks ws) (map (after_instant t) ds) (timers t m).0 wire)
        (unwritten t marks ds m wire ds)
        (all_turn marks ds m (timers t m).0 wire wire (after_instant t) (no_writes t marks ds m wire)
        (λ d. nothing t marks ds m wire d.number) (λ d. (instant_stays t d).number) (instant_owns t)
        (timers_stay t m) (timers_own t m) (λ h. h)
        (λ i n at o after now h. subst (λ (marked : ℕ × ℕ → Bool).
        Ex image n marked (after_instant t (device_at ds i)) (timers t m).0 i wire) (λ j q. sym (now q) j)
        (manager_runs image n t (marks n) (after_instant t (device_at ds i)) m i wire at.listed at.alone
        (device_runs image n t (marks n) (device_at ds i) m i wire h))) g)

    -- one ends, whose frame is delivered
    module _ (slot : Slot) where
      abbrev after_hearing : Device → Device
      after_hearing d = after_instant t (outcome (hears t (delivered_of slot) d) image)

      abbrev heard : Manager
      heard = (outcome (manager_after_slot t (Some slot) m) image).0

      heard_own : (d : Device) → AreOf d.number (written_by_frame image t slot d)
      heard_own d = by (device_sender d.number == slot.sender)
        where
          by : (b : Bool) → AreOf d.number (if b then [] else writes_of_frame image t slot.frame d)
          by true = All-nil (λ (w : Written). w.node ≡ d.number)
          by false = frame_writes_own image t slot.frame d

      hears_same : (d : Device) → (outcome (hears t (delivered_of slot) d) image).number ≡ d.number
      unfolding hears
      hears_same d = by (device_sender d.number == slot.sender)
        where
          by : (b : Bool) → (outcome (if b then Answer d else after_frame t slot.frame d) image).number ≡ d.number
          by true = refl
          by false = (frame_stays image t d slot.frame).number

      hears_has : (d : Device) → DeviceOwns d → DeviceOwns (outcome (hears t (delivered_of slot) d) image)
      unfolding hears
      hears_has d h = by (device_sender d.number == slot.sender)
        where
          by : (b : Bool) → DeviceOwns (outcome (if b then Answer d else after_frame t slot.frame d) image)
          by true = h
          by false = frame_owns image t slot.frame d h

      manager_same : StaysManager m heard
      unfolding manager_after_slot
      manager_same = by (manager_sender m.number == slot.sender)
        where
          by : (b : Bool) → StaysManager m
              (outcome (if b then Answer (m, []) else manager.after_frame t slot.frame m) image).0
          by true = record { number = refl; numbers = refl }
          by false = manager_frame_stays image t slot.frame m

      manager_has : ManagerOwns m → ManagerOwns heard
      unfolding manager_after_slot
      manager_has h = by (manager_sender m.number == slot.sender)
        where
          by : (b : Bool) → ManagerOwns
              (outcome (if b then Answer (m, []) else manager.after_frame t slot.frame m) image).0
          by true = h
          by false = manager_frame_owns image t slot.frame m h

      runs_same : StaysManager m (timers t heard).0
      runs_same = record {
        number = (timers_stay t heard).number ∙ manager_same.number;
        numbers = (timers_stay t heard).numbers ∙ manager_same.numbers;
      }

      pub delivery_good : Good marks ds m (Some slot)
          → Good (after_writes marks (flat_map (written_by_frame image t slot) ds)) (map after_hearing ds)
          (timers t heard).0 None
      delivery_good g =
          all_turn marks ds m (timers t heard).0 (Some slot) None after_hearing (written_by_frame image t slot) heard_own
          (λ d. (instant_stays t (outcome (hears t (delivered_of slot) d) image)).number ∙ hears_same d)
          (λ d h. instant_owns t (outcome (hears t (delivered_of slot) d) image) (hears_has d h))
          runs_same (λ h. timers_own t heard (manager_has h)) (λ h. tt)
          (λ i n at o after now h.
          delivery_turns image n roster at.is_number t (marks n) after (device_at ds i) m i slot at.number at.listed
          at.alone o.manager at.unasked now
          (kind_of roster n at.is_number at.others slot is.manager o.wire_frame) h) g
