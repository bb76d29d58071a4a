-- The earliest of the times of events in order is that of the first.
use Rattle.std.proofs.Common.{◌≡◌, ℕ, zero, suc, List, [], ◌∷◌, drop, Some, None, inl, inr, refl, ap, ◌∙◌}
use Rattle.std.proofs.Common.{◌-◌, arith, length, subst, sym, take}
use Rattle.std.proofs.lemmas.List.{take_rest}
use Rattle.std.specs.Prelude.{min, option_map, slice_get}
use Rattle.base.specs.Moments.{earlier, earliest}
use Rattle.image_parts.specs.Images.{AreInOrder, ComesBefore}
use Rattle.co_scenario.specs.declared.timed_step.TimedStep.{TimedStep}
use Rattle.bus_devices.specs.Steps.{times}

-- events that come after others in order are in order
left_in_order : (n : ℕ) (steps : List TimedStep) → AreInOrder steps → AreInOrder (drop n steps)
left_in_order zero steps order = order
left_in_order (suc n) [] order = tt
left_in_order (suc n) (step ∷ []) order = left_in_order n [] tt
left_in_order (suc n) (step ∷ next ∷ steps) order = left_in_order n (next ∷ steps) order.1

pub rest_in_order : (n : ℕ) (all steps : List TimedStep) → steps ≡ all → AreInOrder all
    → AreInOrder (take (length steps - n) (drop n steps))
rest_in_order n all steps e order =
    subst AreInOrder (sym (take_rest steps n)) (left_in_order n steps (subst AreInOrder (sym e) order))

-- what comes before has no later time
no_later : (a b : TimedStep) → ComesBefore a b → min a.time b.time ≡ a.time
no_later a b (inl sooner) = omega (arith, sooner)
no_later a b (inr at_once) = let same = at_once.0 in omega (arith, same)

first_time : (step : TimedStep) (steps : List TimedStep) → AreInOrder (step ∷ steps)
    → earliest (times (step ∷ steps)) ≡ Some step.time
first_time step [] order = refl
first_time step (next ∷ steps) order = ap (earlier (Some step.time)) (first_time next steps order.1)
    ∙ ap (λ (n : ℕ). Some n) (no_later step next order.0)

pub first_left : (steps : List TimedStep) (step : TimedStep) → AreInOrder steps → slice_get steps 0 ≡ Some step
    → earliest (times steps) ≡ Some step.time
first_left [] step order e = ap (option_map (λ (s : TimedStep). s.time)) e
first_left (first ∷ steps) step order e =
    first_time first steps order ∙ ap (option_map (λ (s : TimedStep). s.time)) e

pub none_left : (steps : List TimedStep) → slice_get steps 0 ≡ None → earliest (times steps) ≡ None
none_left [] e = refl
none_left (first ∷ steps) e = absurd cc
