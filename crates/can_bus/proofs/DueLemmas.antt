-- The moments of a bus, part by part, and the least of them.
use Rattle.std.proofs.Common.{◌↔◌, ℕ, ◌+◌, ◌<◌, ◌≤◌, List, [], ◌∷◌, ◌++◌, Option, Some, None, arith}
use Rattle.std.specs.Prelude.{All, flat_map}
use Rattle.std.specs.List.{AllByRecursion}
use Rattle.std.proofs.lemmas.List.Elements.{All-append, All-cons, All-head, All-nil, All-tail}
use Rattle.bus_devices.specs.Steps.{LieFrom}
use Rattle.co_device.specs.Device as device
use Rattle.co_device.specs.Device.{Device}
use Rattle.co_scenario.specs.declared.timed_step.TimedStep.{TimedStep}
use Rattle.nmt_boot.specs.Ahead.{IsAhead}
use Rattle.nmt_boot.specs.Manager as manager
use Rattle.nmt_boot.specs.Manager.{Manager}
use Rattle.can_bus.specs.Bus.{Bus}
use Rattle.can_bus.specs.Dues.{least, moments, next_due, slot_moments, step_moments}
use Rattle.can_bus.specs.declared.slot.Slot.{Slot}

-- no moment of a device lies before t
abbrev pub DevicesFrom : ℕ → List Device → Type 0
DevicesFrom t ds = AllByRecursion (λ d. All (λ m. t ≤ m) (device.moments d)) ds

-- the slot on the wire doesn't end before t
abbrev pub SlotFrom : ℕ → Option Slot → Type 0
SlotFrom t None = Unit {0}
SlotFrom t (Some slot) = t ≤ slot.end

-- no moment of the bus but the start of its next window lies before t
pub record AreFrom (t : ℕ) (s : Bus) : Type 0 where
  pub devices : DevicesFrom t s.devices
  pub manager : IsAhead t s.manager
  pub slot : SlotFrom t s.wire
  pub steps : LieFrom t s.steps

-- ---- the list of moments

module _ (t : ℕ) where
  abbrev AllFrom : List ℕ → Type 0
  AllFrom ms = All (λ m. t ≤ m) ms

  pub splits : (xs ys : List ℕ) → AllFrom (xs ++ ys) → AllFrom xs × AllFrom ys
  splits [] ys h = (All-nil (λ m. t ≤ m), h)
  splits (x ∷ xs) ys h =
      let rest = splits xs ys (All-tail (λ m. t ≤ m) x (xs ++ ys) h) in
      (All-cons (λ m. t ≤ m) x xs (All-head (λ m. t ≤ m) x (xs ++ ys) h) rest.0, rest.1)

  devices_from : (ds : List Device) → AllFrom (flat_map device.moments ds) → DevicesFrom t ds
  devices_from [] h = tt
  devices_from (d ∷ ds) h =
      let both = splits (device.moments d) (flat_map device.moments ds) h in
      (both.0, devices_from ds both.1)

  from_devices : (ds : List Device) → DevicesFrom t ds → AllFrom (flat_map device.moments ds)
  from_devices [] h = All-nil (λ m. t ≤ m)
  from_devices (d ∷ ds) h = All-append (λ m. t ≤ m) (device.moments d)
      (flat_map device.moments ds) h.0 (from_devices ds h.1)

  slot_from : (wire : Option Slot) → AllFrom (slot_moments wire) → SlotFrom t wire
  slot_from None h = tt
  slot_from (Some slot) h = All-head (λ m. t ≤ m) slot.end [] h

  from_slot : (wire : Option Slot) → SlotFrom t wire → AllFrom (slot_moments wire)
  from_slot None h = All-nil (λ m. t ≤ m)
  from_slot (Some slot) h = All-cons (λ m. t ≤ m) slot.end [] h (All-nil (λ m. t ≤ m))

  steps_from : (steps : List TimedStep) → AllFrom (step_moments steps) → LieFrom t steps
  steps_from [] h = All-nil (λ (step : TimedStep). t ≤ step.time)
  steps_from (s ∷ steps) h =
      All-cons (λ (step : TimedStep). t ≤ step.time) s steps (All-head (λ m. t ≤ m) s.time (step_moments steps) h)
      (steps_from steps (All-tail (λ m. t ≤ m) s.time (step_moments steps) h))

  from_steps : (steps : List TimedStep) → LieFrom t steps → AllFrom (step_moments steps)
  from_steps [] h = All-nil (λ m. t ≤ m)
  from_steps (s ∷ steps) h =
      All-cons (λ m. t ≤ m) s.time (step_moments steps) (All-head (λ (step : TimedStep). t ≤ step.time) s steps h)
      (from_steps steps (All-tail (λ (step : TimedStep). t ≤ step.time) s steps h))

  pub parts_from : (s : Bus) → All (λ m. t ≤ m) (moments s) → AreFrom t s
  parts_from s h =
      let rest = slot_moments s.wire ++ step_moments s.steps in
      let first = splits (flat_map device.moments s.devices) (manager.moments s.manager ++ rest) h in
      let second = splits (manager.moments s.manager) rest first.1 in
      let third = splits (slot_moments s.wire) (step_moments s.steps) second.1 in
      record {
        devices = devices_from s.devices first.0;
        manager = second.0;
        slot = slot_from s.wire third.0;
        steps = steps_from s.steps third.1;
      }

  pub from_parts : (s : Bus) → AreFrom t s → All (λ m. t ≤ m) (moments s)
  from_parts s h =
      let rest = slot_moments s.wire ++ step_moments s.steps in
      All-append (λ m. t ≤ m) (flat_map device.moments s.devices) (manager.moments s.manager ++ rest)
      (from_devices s.devices h.devices)
      (All-append (λ m. t ≤ m) (manager.moments s.manager) rest h.manager
      (All-append (λ m. t ≤ m) (slot_moments s.wire) (step_moments s.steps) (from_slot s.wire h.slot)
      (from_steps s.steps h.steps)))

  -- ---- the least of them

  least_from : (one : ℕ) (ms : List ℕ) → t ≤ one → All (λ m. t ≤ m) ms → t ≤ least one ms
  least_from one [] h k = h
  least_from one (m ∷ ms) h k =
      let rest = least_from one ms h (All-tail (λ m. t ≤ m) m ms k) in
      let first : t ≤ m = All-head (λ m. t ≤ m) m ms k in
      omega (arith, rest, first)

  from_least : (one : ℕ) (ms : List ℕ) → t ≤ least one ms → (t ≤ one) × All (λ m. t ≤ m) ms
  from_least one [] h = (h, All-nil (λ m. t ≤ m))
  from_least one (m ∷ ms) h =
      let rest = from_least one ms (omega (arith, h)) in
      let first : t ≤ m = omega (arith, h) in
      (rest.0, All-cons (λ m. t ≤ m) m ms first rest.1)

  pub due_from : (s : Bus) → t ≤ s.window → All (λ m. t ≤ m) (moments s) → t ≤ next_due s
  unfolding next_due
  due_from s h k = least_from s.window (moments s) h k

  pub from_due : (s : Bus) → t ≤ next_due s → (t ≤ s.window) × All (λ m. t ≤ m) (moments s)
  unfolding next_due
  from_due s h = from_least s.window (moments s) h

-- the next due moment lies after t, and so do all and the start of the next window
pub due_later : (t : ℕ) (s : Bus) → (t < next_due s) ↔ ((t < s.window) × All (λ m. t < m) (moments s))
due_later t s = (
  λ h. later (from_due (t + 1) s (omega (arith, h))),
  λ h. soonest (due_from (t + 1) s (omega (arith, h.0)) (λ k d p. one_later t _ (h.1 k d p))),
)
  where
    one_later : (t m : ℕ) → t < m → t + 1 ≤ m
    one_later t m h = omega (arith, h)

    one_past : (t m : ℕ) → t + 1 ≤ m → t < m
    one_past t m h = omega (arith, h)

    later : (t + 1 ≤ s.window) × All (λ m. t + 1 ≤ m) (moments s) → (t < s.window) × All (λ m. t < m) (moments s)
    later h = (one_past t s.window h.0, λ k d p. one_past t _ (h.1 k d p))

    soonest : t + 1 ≤ next_due s → t < next_due s
    soonest h = omega (arith, h)
