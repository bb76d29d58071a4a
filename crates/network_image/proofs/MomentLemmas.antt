-- The events of a window at the front of those from its start on.
use Rattle.std.proofs.Common.{◌≡◌, ◌∙◌, ℕ, ◌+◌, ◌*◌, ◌≤◌, Bool, true, false, cond, List, [], ◌∷◌, ◌++◌}
use Rattle.std.proofs.Common.{length, take, drop, filter_map, refl, ap, arith}
use Rattle.std.specs.Prelude.{nat_lt}
use Rattle.std.specs.List.{AllByRecursion, prefix_len}
use Rattle.std.proofs.lemmas.Bool.Decides.{nat_tests}
use Rattle.std.proofs.lemmas.Bool.{eq-eqb}
use Rattle.std.proofs.lemmas.List.Folds.{prefix_len-append}
use Rattle.std.proofs.Math.Seq.{drop-append_seam, take-append_seam}
use Rattle.pdo_choices.proofs.RangeLemmas.{between}
use Rattle.co_scenario.specs.Scenario.{events_between, Events, HasEventBetween}
use Rattle.co_scenario.proofs.PieceLemmas.{pieces}
use Rattle.co_scenario.specs.declared.timed_step.TimedStep.{TimedStep}
use Rattle.co_project.specs.Project.{Content as Project}
use Rattle.project_plan.specs.Events.{shape_of_node}
use Rattle.network_image.specs.Image.{window_steps}
use Rattle.network_image.specs.Steps.{steps_in, timed_step_of}
use Rattle.network_image.proofs.StepLemmas.{moments_have_events, weaker}

-- all of a list pass, and none behind it does
module _ {X : Type 0} (p : X → Bool) where
  all_pass : (xs : List X) → AllByRecursion (λ x. p x ≡ true) xs → prefix_len p xs ≡ length xs
  all_pass [] all = refl
  all_pass (x ∷ xs) all = rw all.0 (let more : 1 + length xs ≡ length (x ∷ xs) = omega arith in
      ap (λ (n : ℕ). 1 + n) (all_pass xs all.1) ∙ more)

  none_pass : (xs : List X) → AllByRecursion (λ x. p x ≡ false) xs → prefix_len p xs ≡ 0
  none_pass [] none = refl
  none_pass (x ∷ xs) none = rw none.0 refl

  front_length : (xs ys : List X) → AllByRecursion (λ x. p x ≡ true) xs → AllByRecursion (λ x. p x ≡ false) ys
      → prefix_len p (xs ++ ys) ≡ length xs
  front_length xs ys all none =
      let whole : prefix_len p xs ≡ length xs = all_pass xs all in
      prefix_len-append p xs ys
      ∙ ap (λ (t : Bool). cond t (length xs + prefix_len p ys) (prefix_len p xs)) (eq-eqb (prefix_len p xs) (length xs)
      whole)
      ∙ ap (λ (n : ℕ). length xs + n) (none_pass ys none) ∙ plus_none (length xs)
    where
      plus_none : (n : ℕ) → n + 0 ≡ n
      plus_none n = omega arith

module _ (events : Events) (i : ℕ) (small : i ≤ 1000) where
  first : ℕ
  first = 10000 * i

  early : ℕ × ℕ → Bool
  early m = nat_lt m.0 (10000 * (i + 1))

  own : List (ℕ × ℕ)
  own = events_between (10000 * i) (10000 * i + 9999) events

  after : List (ℕ × ℕ)
  after = events_between (10000 * (i + 1)) 10009999 events

  both : events_between (10000 * i) 10009999 events ≡ own ++ after
  unfolding own after
  both =
      let start : 10000 * i ≤ 10000 * i + 9999 + 1 = omega arith in
      let stop : 10000 * i + 9999 ≤ 10009999 = omega (arith, small) in
      let next : 10000 * i + 9999 + 1 ≡ 10000 * (i + 1) = omega arith in
      pieces events (10000 * i) (10000 * i + 9999) 10009999 start stop
      ∙ ap (λ (n : ℕ). events_between (10000 * i) (10000 * i + 9999) events ++ events_between n 10009999 events) next

  own_early : AllByRecursion (λ m. early m ≡ true) own
  unfolding early own
  own_early = weaker (HasEventBetween (10000 * i) (10000 * i + 9999) events) (λ m. nat_lt m.0 (10000 * (i + 1)) ≡ true)
      (λ m has. by m.0 (between (10000 * i) (10000 * i + 9999) m.0 has.1.2).1)
      (events_between (10000 * i) (10000 * i + 9999) events)
      (moments_have_events events (10000 * i) (10000 * i + 9999))
    where
      by : (t : ℕ) → t ≤ 10000 * i + 9999 → nat_lt t (10000 * (i + 1)) ≡ true
      by t h = grind (arith, nat_tests)

  after_late : AllByRecursion (λ m. early m ≡ false) after
  unfolding early after
  after_late = weaker (HasEventBetween (10000 * (i + 1)) 10009999 events) (λ m. nat_lt m.0 (10000 * (i + 1)) ≡ false)
      (λ m has. by m.0 (between (10000 * (i + 1)) 10009999 m.0 has.1.2).0)
      (events_between (10000 * (i + 1)) 10009999 events)
      (moments_have_events events (10000 * (i + 1)) 10009999)
    where
      by : (t : ℕ) → 10000 * (i + 1) ≤ t → nat_lt t (10000 * (i + 1)) ≡ false
      by t h = grind (arith, nat_tests)

  -- so many lie before the end of the window
  count : prefix_len (λ m. nat_lt m.0 (10000 * (i + 1))) (events_between (10000 * i) 10009999 events) ≡ length own
  unfolding early
  count = ap (prefix_len (λ m. nat_lt m.0 (10000 * (i + 1)))) both ∙ front_length early own after own_early after_late

  module _ (moments : List (ℕ × ℕ)) (n : ℕ) (are : moments ≡ events_between (10000 * i) 10009999 events)
      (counted : n ≡ prefix_len (λ m. nat_lt m.0 (10000 * (i + 1))) moments) where
    n_is : n ≡ length own
    n_is = counted ∙ ap (prefix_len (λ m. nat_lt m.0 (10000 * (i + 1)))) are ∙ count

    pub its_events : take n moments ≡ events_between (10000 * i) (10000 * i + 9999) events
    unfolding own
    its_events = ap (λ (k : ℕ). take k moments) n_is ∙ ap (take (length own)) (are ∙ both) ∙ take-append_seam own after

    pub later_events : drop n moments ≡ events_between (10000 * (i + 1)) 10009999 events
    unfolding after
    later_events =
        ap (λ (k : ℕ). drop k moments) n_is ∙ ap (drop (length own)) (are ∙ both) ∙ drop-append_seam own after

-- what the events of a window do are its steps
pub steps_are : (p : Project) (i : ℕ) (events : Events) (moments : List (ℕ × ℕ)) (steps : List TimedStep)
    → events ≡ p.events → moments ≡ events_between (10000 * i) (10000 * i + 9999) p.events
    → steps ≡ filter_map (timed_step_of (shape_of_node p) events) moments → steps ≡ window_steps p i
unfolding window_steps steps_in
steps_are p i events moments steps same are is =
    is ∙ ap (filter_map (timed_step_of (shape_of_node p) events)) are
    ∙ ap (λ (e : Events). filter_map (timed_step_of (shape_of_node p) e)
    (events_between (10000 * i) (10000 * i + 9999) p.events)) same
