-- Events in order of time.
use Rattle.std.proofs.Common.{◌≡◌, ℕ, zero, suc, ◌+◌, ◌<◌, ◌≤◌, Bool, true, false, List, [], ◌∷◌, ◌++◌, length, get_or}
use Rattle.std.proofs.Common.{take, drop, inl, inr, refl, ap, arith, sym, ◌∙◌}
use Rattle.std.specs.Prelude.{◌==◌, All, filter, nat_le}
use Rattle.std.specs.List.{AllByRecursion, prefix_len}
use Rattle.std.proofs.lemmas.Bool.Decides.{nat_tests}
use Rattle.std.proofs.lemmas.List.{take-append-drop}
use Rattle.std.proofs.lemmas.List.Elements.{All-cons, All-head, All-nil, All-tail}
use Rattle.image_parts.specs.Images.{AreInOrder, ComesBefore, IsFree, IsWithin}
use Rattle.co_scenario.specs.declared.timed_step.TimedStep.{TimedStep}
use Rattle.bus_devices.specs.Steps.{AreFree, LieFrom, has_time, steps_due, steps_from, steps_left}

pub free_at : (steps : List TimedStep) (i : ℕ) (d : TimedStep) → i < length steps → AreFree steps
    → IsFree (get_or steps i d).step
free_at [] i d within free = absurd (omega (arith, within))
free_at (s ∷ steps) zero d within free = free.0
free_at (s ∷ steps) (suc i) d within free = free_at steps i d (omega (arith, within)) free.1

pub free_drop : (n : ℕ) (steps : List TimedStep) → AreFree steps → AreFree (drop n steps)
free_drop zero steps free = free
free_drop (suc n) [] free = tt
free_drop (suc n) (s ∷ steps) free = free_drop n steps free.1

pub free_take : (n : ℕ) (steps : List TimedStep) → AreFree steps → AreFree (take n steps)
free_take zero steps free = tt
free_take (suc n) [] free = tt
free_take (suc n) (s ∷ steps) free = (free.0, free_take n steps free.1)

-- what a window that was handed out has
pub free_within : (i : ℕ) (steps : List TimedStep) → AllByRecursion (IsWithin i) steps → AreFree steps
free_within i [] within = tt
free_within i (s ∷ steps) within = (within.0.2, free_within i steps within.1)

-- ---- which are due, and which are left

drop_one_more : (n : ℕ) (s : TimedStep) (steps : List TimedStep) → drop (1 + n) (s ∷ steps) ≡ drop n steps
drop_one_more n s steps = let more : 1 + n ≡ suc n = omega arith in ap (λ (k : ℕ). drop k (s ∷ steps)) more

take_one_more : (n : ℕ) (s : TimedStep) (steps : List TimedStep) → take (1 + n) (s ∷ steps) ≡ s ∷ take n steps
take_one_more n s steps = let more : 1 + n ≡ suc n = omega arith in ap (λ (k : ℕ). take k (s ∷ steps)) more

-- the first has the time, and is due, or it hasn't, and none is
module _ (t : ℕ) (s : TimedStep) (steps : List TimedStep) where
  left_after : has_time t s ≡ true → steps_left t (s ∷ steps) ≡ steps_left t steps
  unfolding steps_left
  left_after e = rw e (drop_one_more (prefix_len (has_time t) steps) s steps)

  left_all : has_time t s ≡ false → steps_left t (s ∷ steps) ≡ s ∷ steps
  unfolding steps_left
  left_all e = rw e refl

  due_first : has_time t s ≡ true → steps_due t (s ∷ steps) ≡ s ∷ steps_due t steps
  unfolding steps_due
  due_first e = rw e (take_one_more (prefix_len (has_time t) steps) s steps)

  due_none : has_time t s ≡ false → steps_due t (s ∷ steps) ≡ []
  unfolding steps_due
  due_none e = rw e refl

pub all_of_them : (t : ℕ) (steps : List TimedStep) → steps_due t steps ++ steps_left t steps ≡ steps
unfolding steps_due steps_left
all_of_them t steps = take-append-drop (prefix_len (has_time t) steps) steps

it_has : (t time : ℕ) → (time == t) ≡ true → time ≡ t
it_has t time e = grind (arith, nat_tests)

it_is_later : (t time : ℕ) → (time == t) ≡ false → t ≤ time → t + 1 ≤ time
it_is_later t time e h = grind (arith, nat_tests)

pub due_then : (t : ℕ) (steps : List TimedStep) → All (λ (step : TimedStep). step.time ≡ t) (steps_due t steps)
unfolding steps_due
due_then t [] = All-nil (λ (step : TimedStep). step.time ≡ t)
due_then t (s ∷ steps) = by (due_then t steps) (has_time t s) refl
  where
    by : All (λ (step : TimedStep). step.time ≡ t) (steps_due t steps) → (b : Bool) → has_time t s ≡ b
        → All (λ (step : TimedStep). step.time ≡ t) (steps_due t (s ∷ steps))
    by rest true e = rw (due_first t s steps e)
        (All-cons (λ (step : TimedStep). step.time ≡ t) s (steps_due t steps) (it_has t s.time e) rest)
    by rest false e = rw (due_none t s steps e) (All-nil (λ (step : TimedStep). step.time ≡ t))

rest_in_order : (s : TimedStep) (steps : List TimedStep) → AreInOrder (s ∷ steps) → AreInOrder steps
rest_in_order s [] order = tt
rest_in_order s (next ∷ steps) order = order.1

-- what comes before has no later time
not_later : (a b : TimedStep) → ComesBefore a b → a.time ≤ b.time
not_later a b (inl sooner) = omega (arith, sooner)
not_later a b (inr at_once) = let same = at_once.0 in omega (arith, same)

in_order_from : (u : ℕ) (s : TimedStep) (steps : List TimedStep) → AreInOrder (s ∷ steps) → u ≤ s.time
    → LieFrom u (s ∷ steps)
in_order_from u s [] order h =
    All-cons (λ (step : TimedStep). u ≤ step.time) s [] h (All-nil (λ (step : TimedStep). u ≤ step.time))
in_order_from u s (next ∷ steps) order h =
    let later = not_later s next order.0 in
    All-cons (λ (step : TimedStep). u ≤ step.time) s (next
    ∷ steps) h (in_order_from u next steps order.1 (omega (arith, h, later)))

pub left_later : (t : ℕ) (steps : List TimedStep) → AreInOrder steps → LieFrom t steps
    → LieFrom (t + 1) (steps_left t steps)
unfolding steps_left
left_later t [] order from = All-nil (λ (step : TimedStep). t + 1 ≤ step.time)
left_later t (s ∷ steps) order from = by (left_later t steps (rest_in_order s steps order)
    (All-tail (λ (step : TimedStep). t ≤ step.time) s steps from)) (has_time t s) refl
  where
    by : LieFrom (t + 1) (steps_left t steps) → (b : Bool) → has_time t s ≡ b
        → LieFrom (t + 1) (steps_left t (s ∷ steps))
    by rest true e = rw (left_after t s steps e) rest
    by rest false e = rw (left_all t s steps e)
        (in_order_from (t + 1) s steps order (it_is_later t s.time e
        (All-head (λ (step : TimedStep). t ≤ step.time) s steps from)))

pub left_in_order : (t : ℕ) (steps : List TimedStep) → AreInOrder steps → AreInOrder (steps_left t steps)
unfolding steps_left
left_in_order t [] order = tt
left_in_order t (s ∷ steps) order = by (left_in_order t steps (rest_in_order s steps order)) (has_time t s) refl
  where
    by : AreInOrder (steps_left t steps) → (b : Bool) → has_time t s ≡ b → AreInOrder (steps_left t (s ∷ steps))
    by rest true e = rw (left_after t s steps e) rest
    by rest false e = rw (left_all t s steps e) order

-- ---- of all events of a window, those that are due and those that are left

is_from : (t time : ℕ) → t ≤ time → nat_le t time ≡ true
is_from t time h = grind (arith, nat_tests)

from_is : (t time : ℕ) → nat_le t time ≡ true → t ≤ time
from_is t time e = grind (arith, nat_tests)

is_before : (t time : ℕ) → nat_le t time ≡ false → (time == t) ≡ false
is_before t time e = grind (arith, nat_tests)

is_before_next : (t time : ℕ) → nat_le t time ≡ false → nat_le (t + 1) time ≡ false
is_before_next t time e = grind (arith, nat_tests)

is_over : (t time : ℕ) → (time == t) ≡ true → nat_le (t + 1) time ≡ false
is_over t time e = grind (arith, nat_tests)

is_not_at : (t time : ℕ) → t + 1 ≤ time → (time == t) ≡ false
is_not_at t time h = grind (arith, nat_tests)

pub all_stay : (t : ℕ) (steps : List TimedStep) → LieFrom t steps → steps_from t steps ≡ steps
all_stay t [] h = refl
all_stay t (s ∷ steps) h =
    rw (is_from t s.time (All-head (λ (step : TimedStep). t ≤ step.time) s steps h))
    (ap (λ (rest : List TimedStep). s ∷ rest)
    (all_stay t steps (All-tail (λ (step : TimedStep). t ≤ step.time) s steps h)))

none_at : (t : ℕ) (steps : List TimedStep) → LieFrom (t + 1) steps → filter (has_time t) steps ≡ []
none_at t [] h = refl
none_at t (s ∷ steps) h =
    rw (is_not_at t s.time (All-head (λ (step : TimedStep). t + 1 ≤ step.time) s steps h))
    (none_at t steps (All-tail (λ (step : TimedStep). t + 1 ≤ step.time) s steps h))

-- all from the next moment on, where the first isn't of this one
later_ones : (t : ℕ) (s : TimedStep) (steps : List TimedStep) → AreInOrder (s ∷ steps) → t ≤ s.time
    → has_time t s ≡ false → LieFrom (t + 1) (s ∷ steps)
later_ones t s steps order from e = in_order_from (t + 1) s steps order (it_is_later t s.time e from)

due_of_these : (t : ℕ) (steps : List TimedStep) → AreInOrder steps → LieFrom t steps
    → steps_due t steps ≡ filter (has_time t) steps
unfolding steps_due
due_of_these t [] order from = refl
due_of_these t (s ∷ steps) order from =
    by (All-head (λ (step : TimedStep). t ≤ step.time) s steps from)
    (due_of_these t steps (rest_in_order s steps order)
    (All-tail (λ (step : TimedStep). t ≤ step.time) s steps from)) (has_time t s) refl
  where
    by : t ≤ s.time → steps_due t steps ≡ filter (has_time t) steps → (b : Bool) → has_time t s ≡ b
        → steps_due t (s ∷ steps) ≡ filter (has_time t) (s ∷ steps)
    by h rest true e = due_first t s steps e ∙ ap (λ (xs : List TimedStep). s ∷ xs) rest ∙ sym (rw e refl)
    by h rest false e = due_none t s steps e ∙ sym (none_at t (s ∷ steps) (later_ones t s steps order h e))

left_of_these : (t : ℕ) (steps : List TimedStep) → AreInOrder steps → LieFrom t steps
    → steps_left t steps ≡ steps_from (t + 1) steps
unfolding steps_left
left_of_these t [] order from = refl
left_of_these t (s ∷ steps) order from =
    by (All-head (λ (step : TimedStep). t ≤ step.time) s steps from)
    (left_of_these t steps (rest_in_order s steps order)
    (All-tail (λ (step : TimedStep). t ≤ step.time) s steps from)) (has_time t s) refl
  where
    by : t ≤ s.time → steps_left t steps ≡ steps_from (t + 1) steps → (b : Bool) → has_time t s ≡ b
        → steps_left t (s ∷ steps) ≡ steps_from (t + 1) (s ∷ steps)
    by h rest true e = left_after t s steps e ∙ rest ∙ sym (rw (is_over t s.time e) refl)
    by h rest false e = left_all t s steps e ∙ sym (all_stay (t + 1) (s ∷ steps) (later_ones t s steps order h e))

pub due_of_all : (t : ℕ) (steps : List TimedStep) → AreInOrder steps
    → steps_due t (steps_from t steps) ≡ filter (has_time t) steps
unfolding steps_due
due_of_all t [] order = refl
due_of_all t (s ∷ steps) order = by (due_of_all t steps (rest_in_order s steps order)) (nat_le t s.time) refl
  where
    by : steps_due t (steps_from t steps) ≡ filter (has_time t) steps → (b : Bool) → nat_le t s.time ≡ b
        → steps_due t (steps_from t (s ∷ steps)) ≡ filter (has_time t) (s ∷ steps)
    by rest true e =
        let from = in_order_from t s steps order (from_is t s.time e) in
        ap (steps_due t) (all_stay t (s ∷ steps) from) ∙ due_of_these t (s ∷ steps) order from
    by rest false e = rw (e, is_before t s.time e) rest

pub left_of_all : (t : ℕ) (steps : List TimedStep) → AreInOrder steps
    → steps_left t (steps_from t steps) ≡ steps_from (t + 1) steps
unfolding steps_left
left_of_all t [] order = refl
left_of_all t (s ∷ steps) order = by (left_of_all t steps (rest_in_order s steps order)) (nat_le t s.time) refl
  where
    by : steps_left t (steps_from t steps) ≡ steps_from (t + 1) steps → (b : Bool) → nat_le t s.time ≡ b
        → steps_left t (steps_from t (s ∷ steps)) ≡ steps_from (t + 1) (s ∷ steps)
    by rest true e =
        let from = in_order_from t s steps order (from_is t s.time e) in
        ap (steps_left t) (all_stay t (s ∷ steps) from) ∙ left_of_these t (s ∷ steps) order from
    by rest false e = rw (e, is_before_next t s.time e) rest
