-- The exchanges with all nodes at every moment of a run.
use Rattle.std.proofs.Common.{◌≡◌, ℕ, zero, suc, ◌+◌, ◌<◌, Bool, true, false, List, [], ◌∷◌, Option, Some, None}
use Rattle.std.proofs.Common.{◌⊎◌, inl, inr, refl, sym, ap, ◌∙◌, subst, arith, map, length}
use Rattle.std.specs.Prelude.{◌==◌, if◌then◌else◌}
use Rattle.std.specs.List.{AllByRecursion}
use Rattle.std.proofs.lemmas.List.{get_or-map, length-map}
use Rattle.std.proofs.lemmas.List.Elements.{All-from_recursion}
use Rattle.image_parts.specs.Asking.{outcome}
use Rattle.network_laws.proofs.OwnLemmas.{first_numbers, power_owns as manager_power_owns}
use Rattle.network_laws.specs.Requests.{requests_to}
use Rattle.cia301.specs.Limits.{IsNodeNumber}
use Rattle.manager_nodes.specs.Table.{node_at}
use Rattle.bus_devices.specs.Places.{device_at}
use Rattle.bus_devices.specs.Steps.{steps_due}
use Rattle.can_bus.proofs.SpanLemmas.{bus_first, bus_next}
use Rattle.can_bus.specs.Spans.{bus_at}
use Rattle.can_bus.specs.Bus.{Bus, after_delivery, delivered_of, ended_slot, ends_at, from_delivery_on}
use Rattle.can_bus.specs.Bus.{instant, manager_after_delivery, manager_after_slot, open_slot, power_on}
use Rattle.can_bus.specs.Bus.{power_on_of, without_power as dark_devices}
use Rattle.can_bus.specs.declared.slot.Slot.{Slot}
use Rattle.can_bus.proofs.InstantLemmas.{begun, outcome_delivery, outcome_instant, run_by_events}
use Rattle.can_bus.proofs.ManagerLemmas.{outcome_managed}
use Rattle.can_bus.proofs.NodeLemmas.{outcome_nodes}
use Rattle.can_bus.proofs.PowerLemmas.{outcome_power_on_of}
use Rattle.can_bus.proofs.TimeLemmas.{goes_on, starts}
use Rattle.can_bus.proofs.WindowLemmas.{outcome_events_run}
use Rattle.co_device.specs.Device.{Device, after_instant, after_power, without_power}
use Rattle.image_parts.specs.Contents.{Image, roster_of}
use Rattle.image_parts.specs.Images.{IsImage, IsRoster}
use Rattle.image_parts.specs.declared.part.Part.TheVariants as part
use Rattle.image_parts.specs.declared.roster.Roster.{Roster}
use Rattle.device_agenda.specs.Agenda.{hears}
use Rattle.network_laws.specs.Own.{HasOwnFrames as DeviceOwns}
use Rattle.device_agenda.proofs.SelfLemmas.{power_switches}
use Rattle.network_laws.specs.States.{HasBooted}
use Rattle.network_laws.specs.Written.{Written}
use Rattle.network_laws.specs.Marks.{MarkedEntries, after_writes, marks_at, no_marks, writes_at, writes_of_delivery}
use Rattle.network_laws.specs.Marks.{writes_of_events}
use Rattle.network_laws.proofs.GoodLemmas.{IsGood, delivery_good, each_is_map, events_good, quiet_good}
use Rattle.network_laws.proofs.GoodLemmas.{after-append}
use Rattle.network_laws.proofs.Others.{dark_owns, power_owns, switch_does}
use Rattle.network_laws.proofs.RosterLemmas.{IsOf, device_numbers}
use Rattle.network_laws.proofs.StartLemmas.{arbitration_good}
use Rattle.network_laws.proofs.TurnLemmas.{Ex, booted_exchanges, dark_exchanges}
use Rattle.nmt_boot.specs.Manager.{Manager, manager_at_power_on, timers}

map_twice : {X Y Z : Type 0} (f : Y → Z) (g : X → Y) (xs : List X) → map f (map g xs) ≡ map (λ x. f (g x)) xs
map_twice f g [] = refl
map_twice f g (x ∷ xs) = ap (λ rest. f (g x) ∷ rest) (map_twice f g xs)

module _ (image : Image) (roster : Roster) (is : IsRoster roster) where
  abbrev GoodBus : MarkedEntries → Bus → Type 0
  GoodBus marks s = IsGood image roster marks s.devices s.manager s.wire

  -- ---- from the delivery on

  module _ (t : ℕ) (r : Bus) (marks : MarkedEntries) where
    abbrev heard_devices : Option Slot → List Device
    heard_devices slot = map (after_instant t) (outcome (after_delivery t slot r.devices) image)

    abbrev run_manager : Option Slot → Manager
    run_manager slot = (timers t (outcome (manager_after_slot t slot r.manager) image).0).0

    abbrev later : Option Slot → MarkedEntries
    later slot = after_writes marks (writes_of_delivery image t slot r.devices)

    abbrev Nodes : Option Slot → Option Slot → Type 0
    Nodes slot wire = IsGood image roster (later slot) (heard_devices slot) (run_manager slot) wire

    no_slot : (wire : Option Slot) → IsGood image roster marks r.devices r.manager wire → Nodes None wire
    unfolding after_delivery manager_after_slot
    no_slot wire g = quiet_good image roster is t marks r.devices r.manager wire g

    each_hears : (slot : Slot) → outcome (after_delivery t (Some slot) r.devices) image
        ≡ map (λ (d : Device). outcome (hears t (delivered_of slot) d) image) r.devices
    unfolding after_delivery
    each_hears slot = each_is_map image (hears t (delivered_of slot)) r.devices

    a_slot : (slot : Slot) → IsGood image roster marks r.devices r.manager (Some slot) → Nodes (Some slot) None
    a_slot slot g =
        subst (λ (ds : List Device). IsGood image roster (later (Some slot)) ds (run_manager (Some slot)) None)
        (sym (ap (map (after_instant t)) (each_hears slot)
        ∙ map_twice (after_instant t) (λ (d : Device). outcome (hears t (delivered_of slot) d) image) r.devices))
        (delivery_good image roster is t marks r.devices r.manager slot g)

    by_wire : (wire : Option Slot) → IsGood image roster marks r.devices r.manager wire
        → Nodes (ended_slot t wire) (open_slot t wire)
    by_wire None g = no_slot None g
    by_wire (Some slot) g = by (ends_at t slot)
      where
        by : (b : Bool) → Nodes (if b then Some slot else None) (if b then None else Some slot)
        by true = a_slot slot g
        by false = no_slot (Some slot) g

    abbrev nodes_run : Bus
    nodes_run = record {
      spent = r.spent;
      bit_time = r.bit_time;
      slots = r.slots;
      devices = heard_devices (ended_slot t r.wire);
      manager = (outcome (manager_after_delivery t (ended_slot t r.wire) r.manager) image).0;
      wire = open_slot t r.wire;
      window = r.window;
      steps = r.steps;
    }

    managed : (outcome (manager_after_delivery t (ended_slot t r.wire) r.manager) image).0
        ≡ run_manager (ended_slot t r.wire)
    managed = rw (outcome_managed t (ended_slot t r.wire) r.manager image) refl

    nodes_good : GoodBus marks r → GoodBus (later (ended_slot t r.wire)) nodes_run
    nodes_good g =
        subst (λ (m : Manager). IsGood image roster (later (ended_slot t r.wire))
        (heard_devices (ended_slot t r.wire)) m (open_slot t r.wire)) (sym managed) (by_wire r.wire g)

    pub delivered_good : GoodBus marks r
        → GoodBus (later (ended_slot t r.wire)) (outcome (from_delivery_on t r) image).0
    delivered_good g =
        rw (outcome_delivery t r image, outcome_nodes t (ended_slot t r.wire) r.manager r.devices image)
        (arbitration_good image roster is t (later (ended_slot t r.wire)) nodes_run (nodes_good g))

  -- ---- an instant

  module _ (t : ℕ) (s : Bus) (marks : MarkedEntries) where
    begun_good : GoodBus marks s → GoodBus marks (begun t s image)
    begun_good g = by (t == s.window) refl
      where
        by : (b : Bool) → (t == s.window) ≡ b → GoodBus marks (begun t s image)
        by true e = rw (starts image t s e) g
        by false e = rw (goes_on image t s e) g

    begun_wire : (begun t s image).wire ≡ s.wire
    begun_wire = by (t == s.window) refl
      where
        by : (b : Bool) → (t == s.window) ≡ b → (begun t s image).wire ≡ s.wire
        by true e = rw (starts image t s e) refl
        by false e = rw (goes_on image t s e) refl

    abbrev of_events : List Written
    of_events = writes_of_events image t (steps_due t (begun t s image).steps)
        ((begun t s image).devices, (begun t s image).manager)

    run_good : GoodBus marks s → GoodBus (after_writes marks of_events) (run_by_events t s image)
    run_good g =
        let b = begun t s image in
        let h = begun_good g in
        rw (outcome_events_run t b image)
        (events_good image roster is t (steps_due t b.steps) marks b.devices b.manager b.wire h)

    run_wire : (run_by_events t s image).wire ≡ s.wire
    run_wire = rw (outcome_events_run t (begun t s image) image) begun_wire

    abbrev of_delivery : Option Slot → List Written
    of_delivery slot = writes_of_delivery image t slot (run_by_events t s image).devices

    all_writes : after_writes (after_writes marks of_events) (of_delivery (ended_slot t (run_by_events t s image).wire))
        ≡ after_writes marks (writes_at image t s)
    unfolding writes_at
    all_writes =
        ap (λ (wire : Option Slot). after_writes (after_writes marks of_events) (of_delivery (ended_slot t wire))) run_wire
        ∙ sym (after-append image roster is marks of_events (of_delivery (ended_slot t s.wire)))

    pub instant_good : GoodBus marks s
        → GoodBus (after_writes marks (writes_at image t s)) (outcome (instant t s) image).0
    instant_good g =
        rw (outcome_instant t s image)
        (subst (λ (now : MarkedEntries). GoodBus now (outcome (from_delivery_on t (run_by_events t s image)) image).0) all_writes
        (delivered_good t (run_by_events t s image) (after_writes marks of_events) (run_good g)))

  -- ---- at power-on

  dark_numbers : (numbers : List ℕ) → device_numbers (dark_devices numbers) ≡ numbers
  dark_numbers [] = refl
  dark_numbers (n ∷ numbers) = ap (λ (ns : List ℕ). n ∷ ns) (dark_numbers numbers)

  abbrev switched : Device → Device
  switched d = outcome (after_power true 0 d) image

  on_numbers : (ds : List Device) → device_numbers (map switched ds) ≡ device_numbers ds
  on_numbers [] = refl
  on_numbers (d ∷ ds) =
      ap (λ (n : ℕ). n ∷ device_numbers (map switched ds)) (power_switches image 0 d true).number
      ∙ ap (λ (ns : List ℕ). d.number ∷ ns) (on_numbers ds)

  on_owns : (ds : List Device) → AllByRecursion DeviceOwns ds → AllByRecursion DeviceOwns (map switched ds)
  on_owns [] h = tt
  on_owns (d ∷ ds) h = (power_owns image 0 true d h.0, on_owns ds h.1)

  dark_own : (numbers : List ℕ) → AllByRecursion DeviceOwns (dark_devices numbers)
  dark_own [] = tt
  dark_own (n ∷ numbers) = (dark_owns false n, dark_own numbers)

  abbrev all_dark : List Device → Type 0
  all_dark ds = AllByRecursion (λ (d : Device). d.has_power ≡ false) ds

  dark_at : (ds : List Device) → all_dark ds → (i : ℕ) → (device_at ds i).has_power ≡ false
  dark_at [] h i = refl
  dark_at (d ∷ ds) h zero = h.0
  dark_at (d ∷ ds) h (suc i) = dark_at ds h.1 i

  dark_all : (numbers : List ℕ) → all_dark (dark_devices numbers)
  dark_all [] = tt
  dark_all (n ∷ numbers) = (refl, dark_all numbers)

  first_exchange : (n : ℕ) (marks : ℕ × ℕ → Bool) (d : Device) → d.has_power ≡ false → (m : Manager) (i : ℕ)
      → Ex image n marks (switched d) m i None
  first_exchange n marks d off m i = by (switch_does image 0 true d)
    where
      by : HasBooted d.number (switched d) ⊎ ((switched d ≡ d) ⊎ ((switched d).has_power ≡ false))
          → Ex image n marks (switched d) m i None
      by (inl booted) =
          booted_exchanges image n marks (switched d) d.number booted (node_at m.nodes i).stage
          (requests_to n m.waiting) None
      by (inr (inl same)) =
          dark_exchanges image n marks (switched d) (ap (λ (e : Device). e.has_power) same ∙ off)
          (node_at m.nodes i).stage (requests_to n m.waiting) None
      by (inr (inr dark)) =
          dark_exchanges image n marks (switched d) dark (node_at m.nodes i).stage (requests_to n m.waiting) None

  abbrev first_devices : List Device
  first_devices = map switched (dark_devices roster.nodes)

  first_manager : IsOf roster first_devices (manager_at_power_on roster) None
  unfolding manager_at_power_on
  first_manager = record {
    devices = on_numbers (dark_devices roster.nodes) ∙ dark_numbers roster.nodes;
    nodes = first_numbers roster.manager roster.nodes;
    manager = refl;
    device_frames = on_owns (dark_devices roster.nodes) (dark_own roster.nodes);
    manager_frames = manager_power_owns roster
        (All-from_recursion IsNodeNumber roster.nodes is.nodes);
    wire_frame = tt;
  }

  first_good : IsGood image roster no_marks first_devices (manager_at_power_on roster) None
  first_good = record {
    sound = first_manager;
    exchanges = λ i l.
        let many = length-map (dark_devices roster.nodes) switched in
        let there : i < length (dark_devices roster.nodes) = omega (arith, l, many) in
        subst (λ (d : Device). Ex image d.number (no_marks d.number) d (manager_at_power_on roster) i None)
        (sym (get_or-map switched (dark_devices roster.nodes) i (without_power false 0) (without_power false 0) there))
        (first_exchange (switched (device_at (dark_devices roster.nodes) i)).number
        (no_marks (switched (device_at (dark_devices roster.nodes) i)).number)
        (device_at (dark_devices roster.nodes) i)
        (dark_at (dark_devices roster.nodes) (dark_all roster.nodes) i) (manager_at_power_on roster) i);
  }

  pub on_good : GoodBus no_marks (outcome (power_on_of roster) image)
  on_good =
      rw (outcome_power_on_of roster image)
      (subst (λ (ds : List Device). IsGood image roster no_marks ds (manager_at_power_on roster) None)
      (sym (each_is_map image (after_power true 0) (dark_devices roster.nodes))) first_good)

-- ---- the run

module _ (image : Image) (is : IsImage image) where
  abbrev pub network : Roster
  network = roster_of (image part.Roster)

  starts_good : IsGood image network no_marks (outcome power_on image).devices (outcome power_on image).manager
      (outcome power_on image).wire
  unfolding power_on
  starts_good = on_good image network is.roster

  pub run_is_good : (t : ℕ) → IsGood image network (marks_at image t) (bus_at image t).devices (bus_at image t).manager
      (bus_at image t).wire
  unfolding marks_at
  run_is_good zero =
      subst (λ (s : Bus). IsGood image network no_marks s.devices s.manager s.wire) (sym (bus_first image)) starts_good
  run_is_good (suc t) =
      let next : t + 1 ≡ suc t = omega arith in
      subst (λ (s : Bus). IsGood image network (after_writes (marks_at image t) (writes_at image t (bus_at image t)))
      s.devices s.manager s.wire) (sym (bus_next image t) ∙ ap (bus_at image) next)
      (instant_good image network is.roster t (bus_at image t) (marks_at image t) (run_is_good t))
