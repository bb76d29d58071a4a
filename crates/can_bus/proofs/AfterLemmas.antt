-- After an instant every due moment lies ahead, and the devices rest.
use Rattle.std.proofs.Common.{◌≡◌, ℕ, zero, suc, ◌+◌, ◌*◌, ◌<◌, ◌≤◌, Bool, true, false, List, [], ◌∷◌, ◌++◌, map}
use Rattle.std.proofs.Common.{Option, Some, None, refl, arith}
use Rattle.std.specs.Prelude.{All, ◌==◌, if◌then◌else◌, remove, slice_set}
use Rattle.std.specs.List.{AllByRecursion}
use Rattle.std.proofs.lemmas.Bool.Decides.{nat_tests}
use Rattle.std.proofs.lemmas.List.Elements.{All-cons, All-head, All-nil}
use Rattle.image_parts.specs.Asking.{Asking, outcome}
use Rattle.image_parts.specs.Each.{each}
use Rattle.bus_devices.specs.Events.{after_events_at, after_event, after_power_at, after_set_at}
use Rattle.bus_devices.specs.Steps.{steps_due}
use Rattle.image_parts.proofs.EachLemmas.{outcome_each}
use Rattle.bus_devices.proofs.EventLemmas.{happens_nmt, happens_own, happens_set, outcome_events, outcome_power}
use Rattle.can_frame.specs.Senders.{device_sender, manager_sender}
use Rattle.can_frame.specs.Slots.{bits_of_slot}
use Rattle.can_frame.proofs.FrameBitLemmas.{least_of_slot}
use Rattle.can_frame.specs.declared.contender.Contender.{Contender}
use Rattle.can_frame.specs.declared.waiting.Waiting.{Waiting}
use Rattle.co_device.specs.Device as device
use Rattle.co_device.specs.Device.{Device, after_instant}
use Rattle.image_parts.specs.Contents.{Content, Image}
use Rattle.base.specs.Moments.{moments_of}
use Rattle.image_parts.specs.declared.part.Part.{Part}
use Rattle.device_objects.specs.Consumers as consumers
use Rattle.device_objects.specs.declared.consumer.Consumer.{Consumer}
use Rattle.co_scenario.specs.declared.step.Step.{Step}
use Rattle.co_scenario.specs.declared.step.Step.TheVariants.{Set, Power, Nmt}
use Rattle.co_scenario.specs.declared.timed_step.TimedStep.{TimedStep}
use Rattle.device_agenda.specs.Agenda.{hears}
use Rattle.device_agenda.specs.Ahead.{AreAhead, IsAhead, NotBefore}
use Rattle.device_agenda.specs.Rest.{Rests}
use Rattle.device_agenda.proofs.AheadLemmas.{frame_ahead, power_ahead, set_ahead}
use Rattle.device_agenda.proofs.CaseLemmas.{one_of}
use Rattle.device_agenda.proofs.RestLemmas.{ran_after, ran_rests}
use Rattle.nmt_boot.proofs.MomentLemmas.{command_ahead, due_later as timers_later, frame_ahead as manager_frame_ahead}
use Rattle.nmt_boot.specs.Ahead.{IsAhead as IsManagerAhead}
use Rattle.nmt_boot.specs.Manager as manager
use Rattle.nmt_boot.specs.Manager.{Manager}
use Rattle.node_boot.specs.declared.note.Note.{Note as Noted}
use Rattle.bus_devices.specs.Senders.{sender_place}
use Rattle.bus_devices.specs.Places.{device_at}
use Rattle.can_bus.specs.Bus.{Bus, after_delivery, devices_without_winner, ended_slot, after_events, from_delivery_on}
use Rattle.can_bus.specs.Bus.{winning_frame, delivered_of, instant, manager_after_delivery, manager_without_winner}
use Rattle.can_bus.specs.Bus.{manager_after_slot, open_slot, after_arbitration, after_start_on, with_slot_of}
use Rattle.can_bus.specs.Bus.{after_window_start, winner}
use Rattle.can_bus.specs.declared.slot.Slot.{Slot}
use Rattle.can_bus.proofs.DueLemmas.{AreFrom, DevicesFrom, SlotFrom, splits}
use Rattle.can_bus.proofs.InstantLemmas.{begun, outcome_delivery, outcome_instant, run_by_events}
use Rattle.can_bus.proofs.ManagerLemmas.{outcome_managed}
use Rattle.can_bus.proofs.NodeLemmas.{outcome_nodes}
use Rattle.can_bus.proofs.TimeLemmas.{goes_on, starts}
use Rattle.can_bus.proofs.WindowLemmas.{outcome_events_run}

-- one of two trees
picked : {A : Type 0} (image : Image) (P : A → Type 0) (b : Bool) (m n : Asking Part Content A)
    → (b ≡ true → P (outcome m image)) → (b ≡ false → P (outcome n image)) → P (outcome (if b then m else n) image)
picked image P true m n p q = p refl
picked image P false m n p q = q refl

-- ---- the timers of a device whose moments lie ahead

timer_from : (t : ℕ) (moment : Option ℕ) → All (λ m. t ≤ m) (moments_of moment) → NotBefore t moment
timer_from t None h = tt
timer_from t (Some m) h = All-head (λ m. t ≤ m) m [] h

consumers_from : (t : ℕ) (cs : List Consumer) → All (λ m. t ≤ m) (consumers.moments cs) → AreAhead t cs
consumers_from t [] h = tt
consumers_from t (c ∷ cs) h =
    let both = splits t (moments_of c.moment) (consumers.moments cs) h in
    (timer_from t c.moment both.0, consumers_from t cs both.1)

three : (t : ℕ) (d : Device) (rest : List ℕ)
    → All (λ m. t ≤ m) (moments_of d.heartbeat ++ consumers.moments d.consumers ++ rest) → IsAhead t d
three t d rest h =
    let both = splits t (moments_of d.heartbeat ++ consumers.moments d.consumers) rest h in
    let timers = splits t (moments_of d.heartbeat) (consumers.moments d.consumers) both.0 in
    record { heartbeat = timer_from t d.heartbeat timers.0; consumers = consumers_from t d.consumers timers.1 }

abbrev DevicesAhead : ℕ → List Device → Type 0
DevicesAhead t ds = AllByRecursion (IsAhead t) ds

devices_ahead : (t : ℕ) (ds : List Device) → DevicesFrom t ds → DevicesAhead t ds
devices_ahead t [] h = tt
devices_ahead t (d ∷ ds) h = (three t d _ h.0, devices_ahead t ds h.1)

-- ---- what comes at a moment sets no moment before it

record NodesAhead (t : ℕ) (nodes : List Device × Manager) : Type 0 where
  devices : DevicesAhead t nodes.0
  manager : IsManagerAhead t nodes.1

module _ (image : Image) (t : ℕ) where
  now : t ≤ t + 1
  now = omega arith

  each_ahead : (step : Device → Asking Part Content Device)
      → ((d : Device) → IsAhead t d → IsAhead t (outcome (step d) image)) → (ds : List Device) → DevicesAhead t ds
      → DevicesAhead t (outcome (each step ds) image)
  each_ahead step f [] h = tt
  each_ahead step f (d ∷ ds) h = rw (outcome_each step d ds image) (f d h.0, each_ahead step f ds h.1)

  one_set : (node : ℕ) (place : ℕ × ℕ) (bytes : List ℕ) (d : Device) → IsAhead t d
      → IsAhead t (after_set_at t node place bytes d)
  unfolding after_set_at
  one_set node place bytes d h = one_of (IsAhead t) (d.number == node) _ d (set_ahead t t now place bytes d h) h

  all_set : (node : ℕ) (place : ℕ × ℕ) (bytes : List ℕ) (ds : List Device) → DevicesAhead t ds
      → DevicesAhead t (map (after_set_at t node place bytes) ds)
  all_set node place bytes [] h = tt
  all_set node place bytes (d ∷ ds) h = (one_set node place bytes d h.0, all_set node place bytes ds h.1)

  one_power : (node : ℕ) (on : Bool) (d : Device) → IsAhead t d → IsAhead t (outcome (after_power_at t node on d) image)
  unfolding after_power_at
  one_power node on d h = picked image (IsAhead t) (d.number == node) _ _ (λ e. power_ahead t t now image on d h)
      (λ e. h)

  power_event : (node : ℕ) (on : Bool) (ds : List Device) (m : Manager) → DevicesAhead t ds → IsManagerAhead t m
      → (own : Bool) → (m.number == node) ≡ own → NodesAhead t (outcome (after_event t (Power node on) (ds, m)) image)
  power_event node on ds m h k true e = rw (happens_own t ds m node on e) (record { devices = h; manager = k })
  power_event node on ds m h k false e = rw (outcome_power t ds m node on e image)
      (record { devices = each_ahead (after_power_at t node on) (one_power node on) ds h; manager = k })

  one_event : (step : Step) (ds : List Device) (m : Manager) → DevicesAhead t ds → IsManagerAhead t m
      → NodesAhead t (outcome (after_event t step (ds, m)) image)
  one_event (Set node index sub bytes) ds m h k = rw (happens_set t ds m node index sub bytes)
      (record { devices = all_set node (index, sub) bytes ds h; manager = k })
  one_event (Power node on) ds m h k = power_event node on ds m h k (m.number == node) refl
  one_event (Nmt node command) ds m h k = rw (happens_nmt t ds m node command)
      (record { devices = h; manager = command_ahead t command node m k })

  all_events : (steps : List TimedStep) (ds : List Device) (m : Manager) → DevicesAhead t ds → IsManagerAhead t m
      → NodesAhead t (outcome (after_events_at t steps (ds, m)) image)
  unfolding after_events_at
  all_events [] ds m h k = record { devices = h; manager = k }
  all_events (step ∷ steps) ds m h k =
      let after = outcome (after_event t step.step (ds, m)) image in
      let both = one_event step.step ds m h k in
      rw (outcome_events t step steps (ds, m) image) (all_events steps after.0 after.1 both.devices both.manager)

  one_hears : (slot : Slot) (d : Device) → IsAhead t d → IsAhead t (outcome (hears t (delivered_of slot) d) image)
  unfolding hears
  one_hears slot d h = picked image (IsAhead t) (device_sender d.number == slot.sender) _ _ (λ e. h)
      (λ e. frame_ahead t t now image slot.frame d h)

  all_hear : (slot : Option Slot) (ds : List Device) → DevicesAhead t ds
      → DevicesAhead t (outcome (after_delivery t slot ds) image)
  unfolding after_delivery
  all_hear None ds h = h
  all_hear (Some slot) ds h = each_ahead (hears t (delivered_of slot)) (one_hears slot) ds h

  manager_ahead : (slot : Option Slot) (m : Manager) → IsManagerAhead t m
      → IsManagerAhead t (outcome (manager_after_slot t slot m) image).0
  unfolding manager_after_slot
  manager_ahead None m h = h
  manager_ahead (Some slot) m h = picked image (λ (r : Manager × List Noted). IsManagerAhead t r.0)
      (manager_sender m.number == slot.sender) _ _ (λ e. h) (λ e. manager_frame_ahead image t slot.frame m h)

  manager_later : (slot : Option Slot) (m : Manager) → IsManagerAhead t m
      → IsManagerAhead (t + 1) (outcome (manager_after_delivery t slot m) image).0
  manager_later slot m h = rw (outcome_managed t slot m image)
      (timers_later t (outcome (manager_after_slot t slot m) image).0 (manager_ahead slot m h))

-- ---- a bus in an instant, before its nodes ran

record IsAheadOf (t : ℕ) (s : Bus) : Type 0 where
  bit_time : 1 ≤ s.bit_time
  devices : DevicesAhead t s.devices
  manager : IsManagerAhead t s.manager
  slot : SlotFrom t s.wire

ahead_of : (t : ℕ) (s : Bus) → 1 ≤ s.bit_time → AreFrom t s → IsAheadOf t s
ahead_of t s bit h = record {
  bit_time = bit;
  devices = devices_ahead t s.devices h.devices;
  manager = h.manager;
  slot = h.slot;
}

begun_ahead : (image : Image) (t : ℕ) (s : Bus) → IsAheadOf t s → IsAheadOf t (begun t s image)
begun_ahead image t s h = by (t == s.window) refl
  where
    by : (b : Bool) → (t == s.window) ≡ b → IsAheadOf t (outcome (after_window_start t s) image)
    by true e = rw (starts image t s e)
        (record { bit_time = h.bit_time; devices = h.devices; manager = h.manager; slot = h.slot })
    by false e = rw (goes_on image t s e) h

run_ahead : (image : Image) (t : ℕ) (s : Bus) → IsAheadOf t s → IsAheadOf t (outcome (after_events t s) image)
run_ahead image t s h =
    let both = all_events image t (steps_due t s.steps) s.devices s.manager h.devices h.manager in
    rw (outcome_events_run t s image)
    (record { bit_time = h.bit_time; devices = both.devices; manager = both.manager; slot = h.slot })

-- ---- and once they ran

pub record IsPast (t : ℕ) (s : Bus) : Type 0 where
  pub bit_time : 1 ≤ s.bit_time
  pub devices : DevicesFrom (t + 1) s.devices
  pub rest : AllByRecursion Rests s.devices
  pub manager : IsManagerAhead (t + 1) s.manager
  pub slot : SlotFrom (t + 1) s.wire

wire_later : (t : ℕ) (wire : Option Slot) → SlotFrom t wire → SlotFrom (t + 1) (open_slot t wire)
wire_later t None h = tt
wire_later t (Some slot) h = by (slot.end == t) refl
  where
    later : (slot.end == t) ≡ false → t + 1 ≤ slot.end
    later e = grind (arith, nat_tests)

    by : (b : Bool) → (slot.end == t) ≡ b → SlotFrom (t + 1) (if b then None else Some slot)
    by true e = tt
    by false e = later e

-- a frame that is sent leaves a list of frames alone
module _ (P : Device → Type 0) (sent : (d : Device) (frames : List Waiting) → P d
    → P (record d { waiting = frames })) where
  one_sends : (place i : ℕ) (ds : List Device) → AllByRecursion P ds
      → AllByRecursion P (slice_set ds i (record (device_at ds i) { waiting = remove (device_at ds i).waiting place }))
  one_sends place i [] h = tt
  one_sends place zero (d ∷ ds) h = (sent d (remove d.waiting place) h.0, h.1)
  one_sends place (suc i) (d ∷ ds) h = (h.0, one_sends place i ds h.1)

  devices_send : (c : Contender) (o : Option ℕ) (ds : List Device) → AllByRecursion P ds
      → AllByRecursion P (devices_without_winner c o ds)
  devices_send c None ds h = h
  devices_send c (Some i) ds h = one_sends c.place i ds h

manager_sends : (t : ℕ) (c : Contender) (o : Option ℕ) (m : Manager) → IsManagerAhead t m
    → IsManagerAhead t (manager_without_winner c o m)
unfolding Rattle.nmt_boot.specs.Manager.moments
manager_sends t c None m h = h
manager_sends t c (Some i) m h = h

ends_later : (t bits bit : ℕ) → 1 ≤ bits → 1 ≤ bit → t + 1 ≤ t + bits * bit
ends_later t bits zero h k = absurd (omega (arith, k))
ends_later t bits (suc bit) h k =
    let more : bits * suc bit ≡ bits + bits * bit = omega arith in
    omega (arith, h, more)

started_past : (t : ℕ) (o : Option Contender) (s : Bus) → IsPast t s → IsPast t (with_slot_of t o s)
started_past t None s h = h
started_past t (Some c) s h =
    let place = sender_place c s.devices in
    let frame = winning_frame c place s.devices s.manager in
    record {
      bit_time = h.bit_time;
      devices = devices_send (λ (d : Device). All (λ m. t + 1 ≤ m) (device.moments d))
          (λ d frames from. from) c place s.devices h.devices;
      rest = devices_send Rests (λ d frames rests. record { unsynced = rests.unsynced; unwanted = rests.unwanted }) c
          place s.devices h.rest;
      manager = manager_sends (t + 1) c place s.manager h.manager;
      slot = ends_later t (bits_of_slot s.slots frame) s.bit_time (omega (arith, least_of_slot s.slots frame)) h.bit_time;
    }

start_past : (t : ℕ) (wire : Option Slot) (s : Bus) → IsPast t s → IsPast t (after_start_on t wire s)
start_past t None s h = started_past t (winner s.devices s.manager) s h
start_past t (Some slot) s h = h

slot_past : (t : ℕ) (s : Bus) → IsPast t s → IsPast t (after_arbitration t s)
unfolding after_arbitration
slot_past t s h = start_past t s.wire s h

later_by : (t : ℕ) (ms : List ℕ) → AllByRecursion (λ m. t < m) ms → All (λ m. t + 1 ≤ m) ms
later_by t [] h = All-nil (λ m. t + 1 ≤ m)
later_by t (m ∷ ms) h = let first : t < m = h.0
    in All-cons (λ m. t + 1 ≤ m) m ms (omega (arith, first)) (later_by t ms h.1)

all_ran : (t : ℕ) (ds : List Device) → DevicesAhead t ds → DevicesFrom (t + 1) (map (after_instant t) ds)
all_ran t [] h = tt
all_ran t (d ∷ ds) h = (later_by t (device.moments (after_instant t d)) (ran_after t d h.0), all_ran t ds h.1)

all_rest : (t : ℕ) (ds : List Device) → AllByRecursion Rests (map (after_instant t) ds)
all_rest t [] = tt
all_rest t (d ∷ ds) = (ran_rests t d, all_rest t ds)

delivery_past : (image : Image) (t : ℕ) (s : Bus) → IsAheadOf t s → IsPast t (outcome (from_delivery_on t s) image).0
delivery_past image t s h =
    let slot = ended_slot t s.wire in
    let heard = outcome (after_delivery t slot s.devices) image in
    let r = outcome (manager_after_delivery t slot s.manager) image in
    let quick : Bus = record {
      spent = s.spent;
      bit_time = s.bit_time;
      slots = s.slots;
      devices = map (after_instant t) heard;
      manager = r.0;
      wire = open_slot t s.wire;
      window = s.window;
      steps = s.steps;
    } in
    let past : IsPast t quick = record {
      bit_time = h.bit_time;
      devices = all_ran t heard (all_hear image t slot s.devices h.devices);
      rest = all_rest t heard;
      manager = manager_later image t slot s.manager h.manager;
      slot = wire_later t s.wire h.slot;
    } in
    rw (outcome_delivery t s image, outcome_nodes t slot s.manager s.devices image) (slot_past t quick past)

-- AFTER AN INSTANT, where no moment lay before it, all lie after it, and the devices rest
pub instant_past : (image : Image) (t : ℕ) (s : Bus) → 1 ≤ s.bit_time → AreFrom t s
    → IsPast t (outcome (instant t s) image).0
instant_past image t s bit from =
    rw (outcome_instant t s image) (delivery_past image t (run_by_events t s image)
    (run_ahead image t (begun t s image) (begun_ahead image t s (ahead_of t s bit from))))
