-- At the start of a window no event is left.
use Rattle.std.proofs.Common.{◌≡◌, ℕ, zero, suc, ◌+◌, ◌*◌, ◌/◌, ◌<◌, ◌≤◌, Bool, true, false, List, [], ◌∷◌, drop, refl}
use Rattle.std.proofs.Common.{sym, ap, ◌∙◌, arith}
use Rattle.std.specs.Prelude.{◌==◌, All}
use Rattle.std.specs.List.{AllByRecursion, prefix_len}
use Rattle.std.proofs.lemmas.Bool.Decides.{nat_tests}
use Rattle.std.proofs.lemmas.List.Elements.{All-head}
use Rattle.image_parts.specs.Asking.{outcome}
use Rattle.bus_devices.specs.Steps.{has_time, steps_left}
use Rattle.image_parts.specs.Contents.{Image, roster_of}
use Rattle.image_parts.specs.Images.{IsImage, IsWithin}
use Rattle.image_parts.specs.declared.part.Part.TheVariants.{Roster}
use Rattle.co_scenario.specs.declared.timed_step.TimedStep.{TimedStep}
use Rattle.can_bus.specs.Bus.{Bus, instant, power_on, after_window_start}
use Rattle.can_bus.specs.Runs.{IsInTime, IsNextWindow}
use Rattle.can_bus.proofs.PowerLemmas.{outcome_power_on_of}
use Rattle.can_bus.proofs.TimeLemmas.{goes_on, in_time_after, in_time_first, instant_steps, instant_window, starts}
use Rattle.can_bus.specs.Spans.{bus_at}
use Rattle.can_bus.proofs.SpanLemmas.{at_each_moment}

drop_before : (n moment : ℕ) (steps : List TimedStep) → AllByRecursion (λ step. step.time < moment) steps
    → AllByRecursion (λ step. step.time < moment) (drop n steps)
drop_before zero moment steps h = h
drop_before (suc n) moment [] h = tt
drop_before (suc n) moment (s ∷ steps) h = drop_before n moment steps h.1

left_before : (t moment : ℕ) (steps : List TimedStep) → AllByRecursion (λ step. step.time < moment) steps
    → AllByRecursion (λ step. step.time < moment) (steps_left t steps)
unfolding steps_left
left_before t moment steps h = drop_before (prefix_len (has_time t) steps) moment steps h

within_before : (i moment : ℕ) (steps : List TimedStep) → 10000 * i + 10000 ≡ moment → AllByRecursion (IsWithin i) steps
    → AllByRecursion (λ step. step.time < moment) steps
within_before i moment [] e h = tt
within_before i moment (s ∷ steps) e h = let last = h.0.1
    in (omega (arith, e, last), within_before i moment steps e h.1)

it_is : (t moment : ℕ) → (t == moment) ≡ true → t ≡ moment
it_is t moment e = grind (arith, nat_tests)

window_end : (t moment i : ℕ) → t ≡ moment → moment ≡ 10000 * i → 10000 * (t / 10000) + 10000 ≡ t + 10000
window_end t moment i e is =
    let whole : t ≡ 10000 * i = e ∙ is in
    let number : (10000 * i) / 10000 ≡ i = omega arith in
    ap (λ n. 10000 * (n / 10000) + 10000) whole ∙ ap (λ n. 10000 * n + 10000) number ∙ ap (λ n. n + 10000) (sym whole)

-- in time, and what is left lies before the next window
record IsInWindow (t : ℕ) (s : Bus) : Type 0 where
  in_time : IsInTime t s
  before : AllByRecursion (λ step. step.time < s.window) s.steps

begun_before : (image : Image) (t : ℕ) (s : Bus) → IsImage image → IsInWindow t s
    → AllByRecursion (λ step. step.time < (outcome (after_window_start t s) image).window)
    (outcome (after_window_start t s) image).steps
begun_before image t s fits h = by (t == s.window) refl
  where
    by : (b : Bool) → (t == s.window) ≡ b
        → AllByRecursion (λ step. step.time < (outcome (after_window_start t s) image).window)
        (outcome (after_window_start t s) image).steps
    by true e =
        let multiple = h.in_time.window.multiple in
        rw (starts image t s e) (within_before (t / 10000)
        (t + 10000) _ (window_end t s.window multiple.0 (it_is t s.window e) multiple.1)
        (fits.within (t / 10000)))
    by false e = rw (goes_on image t s e) h.before

next_in_window : (image : Image) → IsImage image → (t : ℕ) (s : Bus) → IsInWindow t s
    → IsInWindow (t + 1) (outcome (instant t s) image).0
next_in_window image fits t s h = record {
  in_time = in_time_after image t s fits h.in_time;
  before = rw (instant_window image t s, instant_steps image t s)
      (left_before t (outcome (after_window_start t s) image).window (outcome (after_window_start t s) image).steps
      (begun_before image t s fits h));
}

none_first : (image : Image) → (outcome power_on image).steps ≡ []
unfolding power_on
none_first image = rw (outcome_power_on_of (roster_of (image Roster)) image) refl

first_in_window : (image : Image) → IsInWindow 0 (outcome power_on image)
first_in_window image = record { in_time = in_time_first image; before = rw (none_first image) tt }

in_window : (image : Image) → IsImage image → (t : ℕ) → IsInWindow t (bus_at image t)
in_window image fits = at_each_moment image IsInWindow (first_in_window image) (next_in_window image fits)

none_between : (t : ℕ) (steps : List TimedStep) → All (λ (step : TimedStep). t ≤ step.time) steps
    → AllByRecursion (λ step. step.time < t) steps → steps ≡ []
none_between t [] from before = refl
none_between t (s ∷ steps) from before =
    let first : t ≤ s.time = All-head (λ (step : TimedStep). t ≤ step.time) s steps from in
    let last : s.time < t = before.0 in
    absurd (omega (arith, first, last))

its_window : (i moment : ℕ) → IsNextWindow (10000 * i) moment → moment ≡ 10000 * i
its_window i moment h =
    let k = h.multiple.0 in
    let is : moment ≡ 10000 * k = h.multiple.1 in
    let from = h.from in
    let first = h.first in
    omega (arith, is, from, first)

pub none_is_left : (image : Image) → IsImage image → (i : ℕ) → (bus_at image (10000 * i)).steps ≡ []
none_is_left image fits i =
    let s = bus_at image (10000 * i) in
    let h = in_window image fits (10000 * i) in
    let before : AllByRecursion (λ step. step.time < 10000 * i) s.steps =
    rw (its_window i s.window h.in_time.window) at h.before in
    none_between (10000 * i) s.steps h.in_time.from before

-- and the next window starts there
pub window_starts_there : (image : Image) → IsImage image → (i : ℕ) → (bus_at image (10000 * i)).window ≡ 10000 * i
window_starts_there image fits i =
    its_window i (bus_at image (10000 * i)).window (in_window image fits (10000 * i)).in_time.window
