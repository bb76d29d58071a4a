-- Before a bus is due nothing happens.
use Rattle.std.proofs.Common.{◌≡◌, ℕ, ◌+◌, ◌<◌, ◌≤◌, false, List, [], ◌∷◌, map, Option, Some, None, refl, arith}
use Rattle.std.specs.Prelude.{All, ◌==◌}
use Rattle.std.specs.List.{AllByRecursion}
use Rattle.std.proofs.lemmas.Bool.Decides.{nat_tests}
use Rattle.std.proofs.lemmas.List.Elements.{All-head, All-tail}
use Rattle.image_parts.specs.Asking.{Answer}
use Rattle.bus_devices.specs.Events.{after_events_at}
use Rattle.bus_devices.specs.Steps.{LieFrom, has_time, steps_due, steps_left}
use Rattle.can_frame.specs.Senders.{device_sender, manager_sender}
use Rattle.can_frame.specs.Winner.{contenders, contenders_of}
use Rattle.can_frame.specs.declared.waiting.Waiting.{Waiting}
use Rattle.co_device.specs.Device as device
use Rattle.co_device.specs.Device.{Device, after_instant}
use Rattle.co_scenario.specs.declared.timed_step.TimedStep.{TimedStep}
use Rattle.device_agenda.proofs.RestLemmas.{quiet_at_rest}
use Rattle.device_agenda.specs.Rest.{Rests}
use Rattle.nmt_boot.proofs.MomentLemmas.{quiet as quiet_timers}
use Rattle.nmt_boot.specs.Ahead.{IsAhead}
use Rattle.nmt_boot.specs.Manager.{Manager}
use Rattle.can_bus.specs.Bus.{Bus, nodes_after_devices, after_window, after_delivery, ended_slot, after_events}
use Rattle.can_bus.specs.Bus.{from_delivery_on, instant, waiting_lists, manager_after_delivery, manager_after_slot}
use Rattle.can_bus.specs.Bus.{nodes_after, open_slot, after_arbitration, after_start_on, after_window_start, winner}
use Rattle.can_bus.specs.Dues.{IsAtRest, next_due}
use Rattle.can_bus.specs.Runs.{IsIdle, IsSettled, NoneWaits}
use Rattle.can_bus.specs.declared.slot.Slot.{Slot}
use Rattle.can_bus.proofs.DueLemmas.{AreFrom, DevicesFrom, SlotFrom, from_due, parts_from}

another_moment : (t m : ℕ) → t + 1 ≤ m → (m == t) ≡ false
another_moment t m h = grind (arith, nat_tests)

not_now : (t m : ℕ) → t + 1 ≤ m → (t == m) ≡ false
not_now t m h = grind (arith, nat_tests)

-- ---- no window starts, and no event runs

no_window : (t : ℕ) (s : Bus) → t + 1 ≤ s.window → after_window_start t s ≡ Answer s
unfolding after_window_start
no_window t s h = rw (not_now t s.window h) refl

none_due : (t : ℕ) (steps : List TimedStep) → LieFrom (t + 1) steps → steps_due t steps ≡ []
unfolding steps_due
none_due t [] h = refl
none_due t (s ∷ steps) h =
    let e : has_time t s
    ≡ false = another_moment t s.time (All-head (λ (step : TimedStep). t + 1 ≤ step.time) s steps h) in
    rw e refl

all_left : (t : ℕ) (steps : List TimedStep) → LieFrom (t + 1) steps → steps_left t steps ≡ steps
unfolding steps_left
all_left t [] h = refl
all_left t (s ∷ steps) h =
    let e : has_time t s
    ≡ false = another_moment t s.time (All-head (λ (step : TimedStep). t + 1 ≤ step.time) s steps h) in
    rw e refl

no_events : (t : ℕ) (s : Bus) → LieFrom (t + 1) s.steps → after_events t s ≡ Answer s
unfolding after_events after_events_at
no_events t s h = rw (none_due t s.steps h, all_left t s.steps h) refl

-- ---- no frame ends

none_ends : (t : ℕ) (wire : Option Slot) → SlotFrom (t + 1) wire → ended_slot t wire ≡ None
none_ends t None h = refl
none_ends t (Some slot) h = rw (another_moment t slot.end h) refl

same_wire : (t : ℕ) (wire : Option Slot) → SlotFrom (t + 1) wire → open_slot t wire ≡ wire
same_wire t None h = refl
same_wire t (Some slot) h = rw (another_moment t slot.end h) refl

-- ---- no frame starts

no_contenders : (node : ℕ) (frames : List Waiting) → frames ≡ [] → contenders_of (node, frames) ≡ []
no_contenders node frames e = rw e refl

none_contend : (ds : List Device) (m : Manager) → All (λ (d : Device). d.waiting ≡ []) ds → m.waiting ≡ []
    → contenders (waiting_lists ds m) ≡ []
none_contend [] m h e = rw (no_contenders (manager_sender m.number) m.waiting e) refl
none_contend (d ∷ ds) m h e =
    rw (no_contenders (device_sender d.number) d.waiting (All-head (λ (d : Device). d.waiting ≡ []) d ds h))
    (none_contend ds m (All-tail (λ (d : Device). d.waiting ≡ []) d ds h) e)

none_wins : (ds : List Device) (m : Manager) → All (λ (d : Device). d.waiting ≡ []) ds → m.waiting ≡ []
    → winner ds m ≡ None
unfolding winner
none_wins ds m h e = rw (none_contend ds m h e) refl

is_idle : (wire : Option Slot) → wire ≡ None → IsIdle wire
is_idle wire e = rw e tt

none_starts_on : (t : ℕ) (s : Bus) (wire : Option Slot) → s.wire ≡ wire → (IsIdle s.wire → NoneWaits s)
    → after_start_on t wire s ≡ s
none_starts_on t s (Some slot) e settled = refl
none_starts_on t s None e settled =
    let none = settled (is_idle s.wire e) in
    rw (none_wins s.devices s.manager none.devices none.manager) refl

none_starts : (t : ℕ) (s : Bus) → IsSettled s → after_arbitration t s ≡ s
unfolding after_arbitration IsSettled
none_starts t s settled = none_starts_on t s s.wire refl settled

-- ---- no node does anything

by_recursion : (t : ℕ) (ms : List ℕ) → All (λ m. t + 1 ≤ m) ms → AllByRecursion (λ m. t < m) ms
by_recursion t [] h = tt
by_recursion t (m ∷ ms) h =
    let first : t + 1 ≤ m = All-head (λ m. t + 1 ≤ m) m ms h in
    (omega (arith, first), by_recursion t ms (All-tail (λ m. t + 1 ≤ m) m ms h))

no_node : (t : ℕ) (ds : List Device) (m : Manager) → IsAhead (t + 1) m → map (after_instant t) ds ≡ ds
    → nodes_after t None ds m ≡ Answer (ds, (m, []))
unfolding nodes_after after_delivery nodes_after_devices manager_after_delivery manager_after_slot
no_node t ds m h e = rw (e, quiet_timers t m h) refl

no_device : (t : ℕ) (ds : List Device) → All Rests ds → DevicesFrom (t + 1) ds → map (after_instant t) ds ≡ ds
no_device t [] rests from = refl
no_device t (d ∷ ds) rests from =
    rw (
      quiet_at_rest t d (All-head Rests d ds rests) (by_recursion t (device.moments d) from.0),
      no_device t ds (All-tail Rests d ds rests) from.1,
    ) refl

no_delivery : (t : ℕ) (s : Bus) → IsAtRest s → AreFrom (t + 1) s → from_delivery_on t s ≡ Answer (s, [])
unfolding from_delivery_on
no_delivery t s rest from =
    rw (
      none_ends t s.wire from.slot,
      same_wire t s.wire from.slot,
      no_node t s.devices s.manager from.manager (no_device t s.devices rest.devices from.devices),
      none_starts t s rest.settled,
    ) refl

-- BEFORE THE NEXT DUE MOMENT an instant changes nothing, tells nothing and reads nothing
pub quiet : (t : ℕ) (s : Bus) → IsAtRest s → t < next_due s → instant t s ≡ Answer (s, [])
unfolding instant after_window
quiet t s rest h =
    let ahead = from_due (t + 1) s (omega (arith, h)) in
    let from = parts_from (t + 1) s ahead.1 in
    rw (no_window t s ahead.0, no_events t s from.steps, no_delivery t s rest from) refl
