-- The least due moment, part by part.
use Rattle.std.proofs.Common.{◌≡◌, ℕ, List, [], ◌∷◌, ◌++◌, Option, Some, None, refl, sym, ap, ◌∙◌, arith}
use Rattle.std.specs.Prelude.{flat_map, min}
use Rattle.bus_devices.specs.Steps.{times}
use Rattle.co_device.specs.Device as device
use Rattle.base.specs.Moments.{earlier, earliest, moments_of}
use Rattle.nmt_boot.specs.Manager as manager
use Rattle.can_bus.specs.Bus.{Bus}
use Rattle.can_bus.specs.Dues.{least, next_due, slot_moments, step_moments}

-- of two lists
pub least_append : (one : ℕ) (xs ys : List ℕ) → least one (xs ++ ys) ≡ least (least one ys) xs
least_append one [] ys = refl
least_append one (x ∷ xs) ys = ap (min x) (least_append one xs ys)

sooner_is : (one m : ℕ) (o : Option ℕ) → least one (moments_of (earlier (Some m) o)) ≡ min m (least one (moments_of o))
sooner_is one m None = refl
sooner_is one m (Some n) = omega arith

-- the earliest is the least
pub least_of_earliest : (one : ℕ) (ms : List ℕ) → least one (moments_of (earliest ms)) ≡ least one ms
least_of_earliest one [] = refl
least_of_earliest one (m ∷ ms) = sooner_is one m (earliest ms) ∙ ap (min m) (least_of_earliest one ms)

-- of the window, the events, the wire, the manager and the devices
pub next_due_is : (s : Bus) → next_due s
    ≡ least (least (least (least s.window (moments_of (earliest (times s.steps)))) (slot_moments s.wire))
    (moments_of (manager.next_due s.manager))) (moments_of (earliest (flat_map device.moments s.devices)))
unfolding next_due Rattle.nmt_boot.specs.Manager.next_due
next_due_is s =
    let ds = flat_map device.moments s.devices in
    let ms = manager.moments s.manager in
    let slots = slot_moments s.wire in
    let steps = step_moments s.steps in
    let first = least s.window steps in
    let last = least first slots in
    least_append s.window ds (ms ++ (slots ++ steps))
    ∙ ap (λ (n : ℕ). least n ds) (least_append s.window ms (slots ++ steps)
    ∙ ap (λ (n : ℕ). least n ms) (least_append s.window slots steps) ∙ sym (least_of_earliest last ms))
    ∙ ap (λ (n : ℕ). least (least (least n slots) (moments_of (earliest ms))) ds)
    (sym (least_of_earliest s.window steps))
    ∙ sym (least_of_earliest (least (least (least s.window (moments_of (earliest steps))) slots)
    (moments_of (earliest ms))) ds)
