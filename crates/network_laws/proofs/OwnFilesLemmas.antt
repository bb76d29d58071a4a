-- The device that the manager runs in holds its writes at every moment of a run.
use Rattle.std.proofs.Common.{◌≡◌, ◌≢◌, ℕ, zero, suc, ◌+◌, ◌<◌, Bool, true, false, List, [], ◌∷◌, Option, Some, None}
use Rattle.std.proofs.Common.{◌⊎◌, refl, sym, ap, ◌∙◌, subst, arith, map, length, get_or}
use Rattle.std.specs.Prelude.{◌==◌, if◌then◌else◌, Contains}
use Rattle.std.specs.List.{flat_map}
use Rattle.std.specs.Option.{option_map_or}
use Rattle.std.proofs.lemmas.List.{get_or-map, get_or_default, length-map}
use Rattle.std.proofs.lemmas.List.Elements.{All-nil}
use Rattle.bus_devices.proofs.EventLemmas.{happens_own, outcome_events, outcome_power}
use Rattle.bus_devices.specs.Events.{after_event, after_events_at, after_power_at, after_set_at}
use Rattle.bus_devices.specs.Places.{device_at}
use Rattle.bus_devices.specs.Steps.{steps_due}
use Rattle.can_bus.proofs.InstantLemmas.{begun, outcome_delivery, outcome_instant, run_by_events}
use Rattle.can_bus.proofs.NodeLemmas.{outcome_nodes}
use Rattle.can_bus.proofs.PowerLemmas.{outcome_power_on_of}
use Rattle.can_bus.proofs.SpanLemmas.{bus_first, bus_next}
use Rattle.can_bus.proofs.TimeLemmas.{goes_on, starts}
use Rattle.can_bus.proofs.WindowLemmas.{outcome_events_run}
use Rattle.can_bus.specs.Bus.{Bus, after_arbitration, after_delivery, after_nodes, delivered_of, ended_slot, ends_at}
use Rattle.can_bus.specs.Bus.{from_delivery_on, instant, manager_after_delivery, open_slot, power_on, power_on_of}
use Rattle.can_bus.specs.Bus.{without_power as dark_devices}
use Rattle.can_bus.specs.Spans.{bus_at}
use Rattle.can_bus.specs.declared.line.Line.{Line}
use Rattle.can_bus.specs.declared.slot.Slot.{Slot}
use Rattle.can_frame.specs.Senders.{device_sender}
use Rattle.co_device.specs.Device.{Device, after_instant, after_power, after_set, without_power}
use Rattle.co_device.specs.Receiving.{after_frame}
use Rattle.co_scenario.specs.declared.step.Step.{Step}
use Rattle.co_scenario.specs.declared.step.Step.TheVariants.{Set, Power, Nmt}
use Rattle.co_scenario.specs.declared.timed_step.TimedStep.{TimedStep}
use Rattle.device_agenda.proofs.SelfLemmas.{frame_stays, instant_stays, power_switches, set_stays}
use Rattle.device_agenda.specs.Agenda.{hears}
use Rattle.image_parts.specs.Asking.{Answer, Asking, outcome}
use Rattle.image_parts.specs.Configured.{Configures, HoldsItsWrites, producer_time}
use Rattle.image_parts.specs.Contents.{Content, Image, roster_of}
use Rattle.image_parts.specs.Images.{IsImage, IsRoster}
use Rattle.image_parts.specs.declared.part.Part.{Part}
use Rattle.image_parts.specs.declared.part.Part.TheVariants as part
use Rattle.image_parts.specs.declared.roster.Roster.{Roster}
use Rattle.network_laws.specs.Files.{HasData, IsExcepted}
use Rattle.network_laws.specs.Marks.{MarkedEntries, after_writes, marks_at, no_marks, writes_at, writes_of_delivery}
use Rattle.network_laws.specs.Marks.{writes_of_events, writes_of_step, written_at, written_by_frame}
use Rattle.network_laws.specs.Requests.{AreOthers}
use Rattle.network_laws.specs.Since.{is_restored_at, marks_since, restores}
use Rattle.network_laws.specs.Writes.{writes_of_frame, writes_of_set}
use Rattle.network_laws.specs.Written.{AreOf, Written}
use Rattle.network_laws.proofs.FrameStartLemmas.{all_else_stays}
use Rattle.network_laws.proofs.GoodLemmas.{IsGood, after-append, each_is_map, event_good, events_good}
use Rattle.network_laws.proofs.MarkLemmas.{after_told, one_of_them, told}
use Rattle.network_laws.proofs.Others.{frame_writes_own, set_writes_own}
use Rattle.network_laws.proofs.OwnValueLemmas.{Holds, first_holds, heard_holds, instant_holds, same_holds, set_holds}
use Rattle.network_laws.proofs.RosterLemmas.{IsAt, stands_at}
use Rattle.network_laws.proofs.RunLemmas.{network, run_is_good}
use Rattle.network_laws.proofs.ThroughLemmas.{events_keep_wire}
use Rattle.nmt_boot.specs.Manager.{Manager}

-- where nothing is written
no_writes : (number : ℕ) → AreOf number []
no_writes number = All-nil (λ (w : Written). w.node ≡ number)

map_twice : (f g : Device → Device) (ds : List Device) → map f (map g ds) ≡ map (λ d. f (g d)) ds
map_twice f g [] = refl
map_twice f g (d ∷ ds) = ap (λ (rest : List Device). f (g d) ∷ rest) (map_twice f g ds)

module _ (image : Image) (roster : Roster) where
  -- the device of the manager's number, if there is one
  abbrev AllHold : (ℕ × ℕ → Bool) → List Device → Type 0
  AllHold marks ds = (i : ℕ) → i < length ds → (device_at ds i).number ≡ roster.manager
      → Holds image roster.manager marks (device_at ds i)

  mapped_hold : (before after : ℕ × ℕ → Bool) (ds : List Device) (f : Device → Device)
      → ((d : Device) → (f d).number ≡ d.number)
      → ((i : ℕ) → i < length ds → (device_at ds i).number ≡ roster.manager
      → Holds image roster.manager before (device_at ds i) → Holds image roster.manager after (f (device_at ds i)))
      → AllHold before ds → AllHold after (map f ds)
  mapped_hold before after ds f same turns h i l e =
      let many : length (map f ds) ≡ length ds = length-map ds f in
      let within : i < length ds = omega (arith, l, many) in
      let there : device_at (map f ds) i ≡ f (device_at ds i) =
      get_or-map f ds i (without_power false 0) (without_power false 0) within in
      let number : (device_at ds i).number ≡ roster.manager =
      sym (same (device_at ds i)) ∙ ap (λ (d : Device). d.number) (sym there) ∙ e in
      subst (λ (d : Device). Holds image roster.manager after d) (sym there)
      (turns i within number (h i within number))

  -- ---- a slot that starts leaves each device but for the frames that wait

  abbrev stripped : Device → Device
  stripped d = record d { waiting = [] }

  strip_holds : (marks : ℕ × ℕ → Bool) (d : Device) → Holds image roster.manager marks d
      → Holds image roster.manager marks (stripped d)
  strip_holds marks d h = record { has_power = h.has_power; entries = h.entries }

  strip_held : (marks : ℕ × ℕ → Bool) (d : Device) → Holds image roster.manager marks (stripped d)
      → Holds image roster.manager marks d
  strip_held marks d h = record { has_power = h.has_power; entries = h.entries }

  stripped_hold : (marks : ℕ × ℕ → Bool) (ds : List Device) → AllHold marks ds → AllHold marks (map stripped ds)
  stripped_hold marks ds h =
      mapped_hold marks marks ds stripped (λ d. refl) (λ i l e k. strip_holds marks (device_at ds i) k) h

  unstripped_hold : (marks : ℕ × ℕ → Bool) (ds : List Device) → AllHold marks (map stripped ds) → AllHold marks ds
  unstripped_hold marks ds h i l e =
      let many : length (map stripped ds) ≡ length ds = length-map ds stripped in
      let there : device_at (map stripped ds) i ≡ stripped (device_at ds i) =
      get_or-map stripped ds i (without_power false 0) (without_power false 0) l in
      strip_held marks (device_at ds i)
      (subst (λ (d : Device). Holds image roster.manager marks d) there
      (h i (omega (arith, l, many)) (ap (λ (d : Device). d.number) there ∙ e)))

  arbitrated_hold : (marks : ℕ × ℕ → Bool) (t : ℕ) (s : Bus) → AllHold marks s.devices
      → AllHold marks (after_arbitration t s).devices
  arbitrated_hold marks t s h =
      unstripped_hold marks (after_arbitration t s).devices
      (subst (λ (ds : List Device). AllHold marks ds) (sym (ap (λ (b : Bus). b.devices) (all_else_stays t s)))
      (stripped_hold marks s.devices h))

  -- ---- of a bus, the writes of the device

  module _ (is : IsRoster roster) (marks : MarkedEntries) (ds : List Device) (m : Manager) (wire : Option Slot)
      (g : IsGood image roster marks ds m wire) (i : ℕ) (within : i < length ds)
      (number : (device_at ds i).number ≡ roster.manager) where
    at : IsAt roster ds m i (device_at ds i).number
    at = stands_at roster is ds m wire g.sound i within

    others : AreOthers roster.manager roster.nodes → roster.manager ≢ roster.manager
    others = subst (λ (n : ℕ). AreOthers roster.manager roster.nodes → n ≢ roster.manager) number at.others

    now_told : (ours : MarkedEntries) (writes : Device → List Written) → ((d : Device) → AreOf d.number (writes d))
        → (place : ℕ × ℕ) → after_writes ours (flat_map writes ds) roster.manager place
        ≡ told (ours roster.manager place) (writes (device_at ds i)) roster.manager place
    now_told ours writes own place =
        after_told ours (flat_map writes ds) roster.manager place
        ∙ one_of_them writes (λ (d : Device). d.number) own roster.manager place ds i (without_power false 0) within
        (λ k l e. at.only k l (e ∙ sym number)) (ours roster.manager place)

  module _ (is : IsRoster roster) where
    -- ---- events

    module _ (t : ℕ) (marks ours : MarkedEntries) (ds : List Device) (m : Manager) (wire : Option Slot)
        (g : IsGood image roster marks ds m wire) (h : AllHold (ours roster.manager) ds) where
      module _ (number : ℕ) (place : ℕ × ℕ) (bytes : List ℕ) where
        set_own : (d : Device) → AreOf d.number (written_at number place bytes d)
        set_own d = by (d.number == number)
          where
            by : (b : Bool) → AreOf d.number (if b then writes_of_set place bytes d else [])
            by true = set_writes_own place bytes d
            by false = no_writes d.number

        set_same : (d : Device) → (after_set_at t number place bytes d).number ≡ d.number
        unfolding after_set_at
        set_same d = by (d.number == number)
          where
            by : (b : Bool) → (if b then after_set t place bytes d else d).number ≡ d.number
            by true = (set_stays t place bytes d).number
            by false = refl

        one_set : (d : Device) → d.number ≡ roster.manager → (after : ℕ × ℕ → Bool)
            → ((q : ℕ × ℕ) → after q
            ≡ told (ours roster.manager q) (written_at number place bytes d) roster.manager q)
            → Holds image roster.manager (ours roster.manager) d
            → Holds image roster.manager after (after_set_at t number place bytes d)
        unfolding after_set_at
        one_set d of_node after now k = by (d.number == number) now
          where
            by : (b : Bool)
                → ((q : ℕ × ℕ) → after q
                ≡ told (ours roster.manager q) (if b then writes_of_set place bytes d else []) roster.manager q)
                → Holds image roster.manager after (if b then after_set t place bytes d else d)
            by true told_so =
                set_holds image roster.manager t (ours roster.manager) after place bytes d of_node told_so k
            by false told_so = same_holds image roster.manager (ours roster.manager) after d told_so k

        set_hold : AllHold (after_writes ours (flat_map (written_at number place bytes) ds) roster.manager)
            (map (after_set_at t number place bytes) ds)
        set_hold =
            mapped_hold (ours roster.manager)
            (after_writes ours (flat_map (written_at number place bytes) ds) roster.manager) ds
            (after_set_at t number place bytes) set_same
            (λ i within e k. one_set (device_at ds i) e
            (after_writes ours (flat_map (written_at number place bytes) ds) roster.manager)
            (now_told is marks ds m wire g i within e ours (written_at number place bytes) set_own) k) h

      -- its power isn't switched
      module _ (number : ℕ) (on : Bool) where
        abbrev switched : Device → Device
        switched d = outcome (after_power_at t number on d) image

        power_same : (d : Device) → (switched d).number ≡ d.number
        unfolding after_power_at
        power_same d = by (d.number == number)
          where
            by : (b : Bool) → (outcome (if b then after_power on t d else Answer d) image).number ≡ d.number
            by true = (power_switches image t d on).number
            by false = refl

        unswitched : (d : Device) → (d.number == number) ≡ false → switched d ≡ d
        unfolding after_power_at
        unswitched d e = rw e refl

        one_power : (m.number == number) ≡ false → (d : Device) → d.number ≡ roster.manager
            → Holds image roster.manager (ours roster.manager) d
            → Holds image roster.manager (ours roster.manager) (switched d)
        one_power other d of_node k =
            subst (λ (x : Device). Holds image roster.manager (ours roster.manager) x)
            (sym (unswitched d (ap (λ (n : ℕ). n == number) (of_node ∙ sym g.sound.manager) ∙ other))) k

        power_hold : AllHold (ours roster.manager) (outcome (after_event t (Power number on) (ds, m)) image).0
        power_hold = by (m.number == number) refl
          where
            by : (b : Bool) → (m.number == number) ≡ b
                → AllHold (ours roster.manager) (outcome (after_event t (Power number on) (ds, m)) image).0
            by true e =
                subst (λ (a : Asking Part Content (List Device × Manager)).
                AllHold (ours roster.manager) (outcome a image).0) (sym (happens_own t ds m number on e)) h
            by false e =
                subst (λ (r : List Device × Manager). AllHold (ours roster.manager) r.0)
                (sym (outcome_power t ds m number on e image))
                (subst (λ (xs : List Device). AllHold (ours roster.manager) xs)
                (sym (each_is_map image (after_power_at t number on) ds))
                (mapped_hold (ours roster.manager) (ours roster.manager) ds switched power_same
                (λ i within f k. one_power e (device_at ds i) f k) h))

      event_hold : (step : Step) → AllHold (after_writes ours (writes_of_step step ds) roster.manager)
          (outcome (after_event t step (ds, m)) image).0
      unfolding after_event
      event_hold (Set number index sub bytes) = set_hold number (index, sub) bytes
      event_hold (Power number on) = power_hold number on
      event_hold (Nmt number command) = h

    events_hold : (t : ℕ) (steps : List TimedStep) (marks ours : MarkedEntries) (ds : List Device) (m : Manager)
        (wire : Option Slot) → IsGood image roster marks ds m wire → AllHold (ours roster.manager) ds
        → AllHold (after_writes ours (writes_of_events image t steps (ds, m)) roster.manager)
        (outcome (after_events_at t steps (ds, m)) image).0
    unfolding after_events_at
    events_hold t [] marks ours ds m wire g h = h
    events_hold t (step ∷ steps) marks ours ds m wire g h =
        let next : List Device × Manager = outcome (after_event t step.step (ds, m)) image in
        subst (λ (r : List Device × Manager).
        AllHold (after_writes ours (writes_of_events image t (step ∷ steps) (ds, m)) roster.manager) r.0)
        (sym (outcome_events t step steps (ds, m) image))
        (subst (λ (now : MarkedEntries). AllHold (now roster.manager) (outcome (after_events_at t steps next) image).0)
        (sym (after-append image roster is ours (writes_of_step step.step ds)
        (writes_of_events image t steps next)))
        (events_hold t steps (after_writes marks (writes_of_step step.step ds))
        (after_writes ours (writes_of_step step.step ds)) next.0 next.1 wire
        (event_good image roster is t marks ds m wire step.step g) (event_hold t marks ours ds m wire g h step.step)))

    -- ---- the delivery, or an instant without one

    module _ (holding : HoldsItsWrites image roster.manager) (t : ℕ) (marks ours : MarkedEntries) (ds : List Device)
        (m : Manager) (h : AllHold (ours roster.manager) ds) (later : ℕ × ℕ → Bool) where
      -- no slot ends
      quiet_hold : ((place : ℕ × ℕ) → later place ≡ ours roster.manager place)
          → AllHold later (map (after_instant t) ds)
      quiet_hold now =
          mapped_hold (ours roster.manager) later ds (after_instant t) (λ d. (instant_stays t d).number)
          (λ i within e k. instant_holds image roster.manager t later (device_at ds i)
          (same_holds image roster.manager (ours roster.manager) later (device_at ds i) now k)) h

      -- one ends, whose frame is delivered
      module _ (slot : Slot) (g : IsGood image roster marks ds m (Some slot)) where
        abbrev heard : Device → Device
        heard d = outcome (hears t (delivered_of slot) d) image

        heard_own : (d : Device) → AreOf d.number (written_by_frame image t slot d)
        heard_own d = by (device_sender d.number == slot.sender)
          where
            by : (b : Bool) → AreOf d.number (if b then [] else writes_of_frame image t slot.frame d)
            by true = no_writes d.number
            by false = frame_writes_own image t slot.frame d

        heard_same : (d : Device) → (heard d).number ≡ d.number
        unfolding hears
        heard_same d = by (device_sender d.number == slot.sender)
          where
            by : (b : Bool) → (outcome (if b then Answer d else after_frame t slot.frame d) image).number ≡ d.number
            by true = refl
            by false = (frame_stays image t d slot.frame).number

        abbrev IsNow : Type 0
        IsNow = (place : ℕ × ℕ) → later place
            ≡ (if restores roster.manager place slot.frame then false
            else after_writes ours (flat_map (written_by_frame image t slot) ds) roster.manager place)

        one_heard : IsNow → (i : ℕ) → i < length ds → (device_at ds i).number ≡ roster.manager
            → Holds image roster.manager (ours roster.manager) (device_at ds i)
            → Holds image roster.manager later (after_instant t (heard (device_at ds i)))
        one_heard now i within e k =
            instant_holds image roster.manager t later (heard (device_at ds i))
            (heard_holds image roster is.manager holding slot g.sound.wire_frame
            (others is marks ds m (Some slot) g i within e) t (ours roster.manager) later (device_at ds i) e
            (λ place. now place
            ∙ ap (λ (marked : Bool). if restores roster.manager place slot.frame then false else marked)
            (now_told is marks ds m (Some slot) g i within e ours (written_by_frame image t slot) heard_own place)) k)

        delivery_hold : IsNow → AllHold later (map (λ d. after_instant t (heard d)) ds)
        delivery_hold now =
            mapped_hold (ours roster.manager) later ds (λ d. after_instant t (heard d))
            (λ d. (instant_stays t (heard d)).number ∙ heard_same d) (one_heard now) h

        all_heard : map (after_instant t) (outcome (after_delivery t (Some slot) ds) image)
            ≡ map (λ d. after_instant t (heard d)) ds
        unfolding after_delivery
        all_heard =
            ap (map (after_instant t)) (each_is_map image (hears t (delivered_of slot)) ds)
            ∙ map_twice (after_instant t) heard ds

        slot_hold : IsNow → AllHold later (map (after_instant t) (outcome (after_delivery t (Some slot) ds) image))
        slot_hold now = subst (λ (xs : List Device). AllHold later xs) (sym all_heard) (delivery_hold now)

      abbrev IsAfter : Option Slot → Type 0
      IsAfter slot = (place : ℕ × ℕ) → later place
          ≡ (if option_map_or (λ (x : Slot). restores roster.manager place x.frame) slot false then false
          else after_writes ours (writes_of_delivery image t slot ds) roster.manager place)

      none_hold : IsAfter None → AllHold later (map (after_instant t) (outcome (after_delivery t None ds) image))
      unfolding after_delivery
      none_hold now = quiet_hold now

      wire_hold : (wire : Option Slot) → IsGood image roster marks ds m wire → IsAfter (ended_slot t wire)
          → AllHold later (map (after_instant t) (outcome (after_delivery t (ended_slot t wire) ds) image))
      wire_hold None g now = none_hold now
      wire_hold (Some slot) g now = by (ends_at t slot) now
        where
          by : (b : Bool) → IsAfter (if b then Some slot else None)
              → AllHold later
              (map (after_instant t) (outcome (after_delivery t (if b then Some slot else None) ds) image))
          by true told_so = slot_hold slot g told_so
          by false told_so = none_hold told_so

    -- ---- an instant

    abbrev Both : MarkedEntries → MarkedEntries → Bus → Type 0
    Both marks ours s = IsGood image roster marks s.devices s.manager s.wire × AllHold (ours roster.manager) s.devices

    module _ (holding : HoldsItsWrites image roster.manager) (t : ℕ) (s : Bus) (marks ours : MarkedEntries)
        (both : Both marks ours s) where
      begun_both : Both marks ours (begun t s image)
      begun_both = by (t == s.window) refl
        where
          by : (b : Bool) → (t == s.window) ≡ b → Both marks ours (begun t s image)
          by true e = subst (λ (b : Bus). Both marks ours b) (sym (starts image t s e)) both
          by false e = subst (λ (b : Bus). Both marks ours b) (sym (goes_on image t s e)) both

      abbrev of_events : List Written
      of_events = writes_of_events image t (steps_due t (begun t s image).steps)
          ((begun t s image).devices, (begun t s image).manager)

      abbrev ran : Bus
      ran = run_by_events t s image

      ran_both : Both (after_writes marks of_events) (after_writes ours of_events) ran
      ran_both =
          let b = begun t s image in
          let so_far = begun_both in
          subst (λ (r : Bus). Both (after_writes marks of_events) (after_writes ours of_events) r)
          (sym (outcome_events_run t b image)) (
            events_good image roster is t (steps_due t b.steps) marks b.devices b.manager b.wire so_far.0,
            events_hold t (steps_due t b.steps) marks ours b.devices b.manager b.wire so_far.0 so_far.1,
          )

      abbrev nodes_run : Bus
      nodes_run = record {
        spent = ran.spent;
        bit_time = ran.bit_time;
        slots = ran.slots;
        devices = map (after_instant t) (outcome (after_delivery t (ended_slot t ran.wire) ran.devices) image);
        manager = (outcome (manager_after_delivery t (ended_slot t ran.wire) ran.manager) image).0;
        wire = open_slot t ran.wire;
        window = ran.window;
        steps = ran.steps;
      }

      delivered : outcome (from_delivery_on t ran) image ≡ after_nodes t ran (
        map (after_instant t) (outcome (after_delivery t (ended_slot t ran.wire) ran.devices) image),
        outcome (manager_after_delivery t (ended_slot t ran.wire) ran.manager) image,
      )
      delivered =
          outcome_delivery t ran image
          ∙ ap (after_nodes t ran) (outcome_nodes t (ended_slot t ran.wire) ran.manager ran.devices image)

      module _ (later : ℕ × ℕ → Bool) (now : (place : ℕ × ℕ) → later place
          ≡ (if is_restored_at t s roster.manager place then false
          else after_writes ours (writes_at image t s) roster.manager place)) where
        abbrev Follows : Option Slot → Type 0
        Follows wire = IsAfter holding t (after_writes marks of_events) (after_writes ours of_events) ran.devices
            ran.manager ran_both.1 later (ended_slot t wire)

        in_two : Follows s.wire
        unfolding writes_at
        in_two place =
            now place
            ∙ ap (λ (marked : MarkedEntries). if is_restored_at t s roster.manager place then false
            else marked roster.manager place)
            (after-append image roster is ours of_events
            (writes_of_delivery image t (ended_slot t s.wire) ran.devices))

        nodes_hold : AllHold later
            (map (after_instant t) (outcome (after_delivery t (ended_slot t ran.wire) ran.devices) image))
        nodes_hold =
            wire_hold holding t (after_writes marks of_events) (after_writes ours of_events) ran.devices ran.manager
            ran_both.1 later ran.wire ran_both.0
            (subst (λ (wire : Option Slot). Follows wire) (sym (events_keep_wire image t s)) in_two)

        instant_hold : AllHold later (outcome (instant t s) image).0.devices
        instant_hold =
            subst (λ (q : Bus × List Line). AllHold later q.0.devices) (sym (outcome_instant t s image ∙ delivered))
            (arbitrated_hold later t nodes_run nodes_hold)

  -- ---- at power-on

  module _ (holding : HoldsItsWrites image roster.manager) where
    abbrev on : Device → Device
    on d = outcome (after_power true 0 d) image

    first_hold : AllHold (no_marks roster.manager) (map on (dark_devices roster.nodes))
    first_hold i l e =
        let devices : length (map on (dark_devices roster.nodes)) ≡ length (dark_devices roster.nodes) =
        length-map (dark_devices roster.nodes) on in
        let numbers : length (dark_devices roster.nodes) ≡ length roster.nodes =
        length-map roster.nodes (without_power false) in
        let inner : i < length (dark_devices roster.nodes) = omega (arith, l, devices) in
        let within : i < length roster.nodes = omega (arith, inner, numbers) in
        let there : device_at (map on (dark_devices roster.nodes)) i
        ≡ on (without_power false (get_or roster.nodes i 0)) =
        get_or-map on (dark_devices roster.nodes) i (without_power false 0) (without_power false 0) inner
        ∙ ap on (get_or-map (without_power false) roster.nodes i 0 (without_power false 0) within) in
        subst (λ (d : Device). Holds image roster.manager (no_marks roster.manager) d) (sym there)
        (first_holds image roster.manager holding (no_marks roster.manager) (get_or roster.nodes i 0)
        (ap (λ (d : Device). d.number) (sym there) ∙ e))

    on_hold : AllHold (no_marks roster.manager) (outcome (power_on_of roster) image).devices
    on_hold =
        subst (λ (b : Bus). AllHold (no_marks roster.manager) b.devices) (sym (outcome_power_on_of roster image))
        (subst (λ (ds : List Device). AllHold (no_marks roster.manager) ds)
        (sym (each_is_map image (after_power true 0) (dark_devices roster.nodes))) first_hold)

-- ---- the run

module _ (image : Image) (is : IsImage image)
    (holding : HoldsItsWrites image (roster_of (image part.Roster)).manager) where
  abbrev manager : ℕ
  manager = (roster_of (image part.Roster)).manager

  starts_hold : AllHold image (network image is) (no_marks manager) (outcome power_on image).devices
  unfolding power_on
  starts_hold = on_hold image (network image is) holding

  run_holds : (t : ℕ) → AllHold image (network image is) (marks_since image t manager) (bus_at image t).devices
  unfolding marks_since
  run_holds zero =
      subst (λ (s : Bus). AllHold image (network image is) (no_marks manager) s.devices) (sym (bus_first image))
      starts_hold
  run_holds (suc t) =
      let next : t + 1 ≡ suc t = omega arith in
      subst (λ (s : Bus). AllHold image (network image is) (marks_since image (suc t) manager) s.devices)
      (sym (bus_next image t) ∙ ap (bus_at image) next)
      (instant_hold image (network image is) is.roster holding t (bus_at image t) (marks_at image t)
      (marks_since image t) (run_is_good image is t, run_holds t) (marks_since image (suc t) manager)
      (λ place. refl))

pub holds_by_itself : (image : Image) → IsImage image
    → HoldsItsWrites image (roster_of (image part.Roster)).manager → (t : ℕ) (d : Device)
    → Contains (bus_at image t).devices d → d.number ≡ (roster_of (image part.Roster)).manager
    → (d.has_power ≡ true) × ((place : ℕ × ℕ) (bytes : List ℕ) → place ≢ producer_time
    → Configures image d.number place bytes
    → IsExcepted (marks_since image t d.number) place ⊎ HasData d.values place bytes)
holds_by_itself image is holding t d listed number =
    let there : device_at (bus_at image t).devices listed.0 ≡ d =
    get_or_default (bus_at image t).devices listed.0 (without_power false 0) d listed.1 ∙ listed.2 in
    let held : Holds image (manager image is holding) (marks_since image t (manager image is holding)) d =
    subst (λ (e : Device). Holds image (manager image is holding) (marks_since image t (manager image is holding)) e)
    there (run_holds image is holding t listed.0 listed.1 (ap (λ (e : Device). e.number) there ∙ number)) in (
      held.has_power,
      λ place bytes apart c.
          subst (λ (n : ℕ). IsExcepted (marks_since image t n) place ⊎ HasData d.values place bytes) (sym number)
          (held.entries place bytes apart (subst (λ (n : ℕ). Configures image n place bytes) number c)),
    )
