-- Windows start and events run at their times.
use Rattle.std.proofs.Common.{◌≡◌, ◌≢◌, ℕ, ◌+◌, ◌*◌, ◌/◌, ◌≤◌, Bool, true, false, List, [], ◌∷◌, Option, Some, None}
use Rattle.std.proofs.Common.{refl, sym, ap, ◌∙◌, arith, ◌<◌, filter}
use Rattle.std.specs.Prelude.{◌==◌}
use Rattle.std.specs.List.{AllByRecursion}
use Rattle.std.proofs.lemmas.Bool.Decides.{nat_tests}
use Rattle.std.proofs.lemmas.List.Elements.{All-cons, All-nil}
use Rattle.image_parts.specs.Asking.{Answer, outcome, reads}
use Rattle.bus_devices.specs.Steps.{LieFrom, has_time, steps_due, steps_from, steps_left}
use Rattle.bus_devices.proofs.StepLemmas.{all_stay, due_of_all, left_in_order, left_later, left_of_all}
use Rattle.can_frame.specs.declared.contender.Contender.{Contender}
use Rattle.image_parts.specs.Contents.{Image, roster_of, steps_of}
use Rattle.image_parts.specs.Images.{AreInOrder, IsImage, IsWithin}
use Rattle.image_parts.specs.declared.part.Part.TheVariants.{Events, Roster}
use Rattle.co_scenario.specs.declared.timed_step.TimedStep.{TimedStep}
use Rattle.can_bus.specs.Bus.{Bus, ended_slot, from_delivery_on, with_window, instant, nodes_after, open_slot, power_on}
use Rattle.can_bus.specs.Bus.{after_arbitration, after_start_on, with_slot_of, after_window_start, winner}
use Rattle.can_bus.specs.Runs.{HasItsEvents, IsInTime, IsNextWindow, window_of}
use Rattle.can_bus.specs.declared.slot.Slot.{Slot}
use Rattle.can_bus.proofs.InstantLemmas.{begun, outcome_delivery, outcome_instant, run_by_events}
use Rattle.can_bus.proofs.PowerLemmas.{outcome_power_on_of}
use Rattle.can_bus.proofs.WindowLemmas.{outcome_events_run}

-- ---- what is done from the delivery on changes nothing of windows and events

record IsSameWindow (s after : Bus) : Type 0 where
  window : after.window ≡ s.window
  steps : after.steps ≡ s.steps

started_keeps : (t : ℕ) (o : Option Contender) (s : Bus) → IsSameWindow s (with_slot_of t o s)
started_keeps t None s = record { window = refl; steps = refl }
started_keeps t (Some c) s = record { window = refl; steps = refl }

start_keeps : (t : ℕ) (wire : Option Slot) (s : Bus) → IsSameWindow s (after_start_on t wire s)
start_keeps t None s = started_keeps t (winner s.devices s.manager) s
start_keeps t (Some slot) s = record { window = refl; steps = refl }

slot_keeps : (t : ℕ) (s : Bus) → IsSameWindow s (after_arbitration t s)
unfolding after_arbitration
slot_keeps t s = start_keeps t s.wire s

delivery_keeps : (image : Image) (t : ℕ) (s : Bus) → IsSameWindow s (outcome (from_delivery_on t s) image).0
delivery_keeps image t s =
    let q = outcome (nodes_after t (ended_slot t s.wire) s.devices s.manager) image in
    let kept =
    slot_keeps t (record {
      spent = s.spent;
      bit_time = s.bit_time;
      slots = s.slots;
      devices = q.0;
      manager = q.1.0;
      wire = open_slot t s.wire;
      window = s.window;
      steps = s.steps;
    }) in
    rw (outcome_delivery t s image) (record { window = kept.window; steps = kept.steps })

pub instant_window : (image : Image) (t : ℕ) (s : Bus)
    → (outcome (instant t s) image).0.window ≡ (outcome (after_window_start t s) image).window
instant_window image t s =
    rw (outcome_instant t s image)
    ((delivery_keeps image t (run_by_events t s image)).window
    ∙ ap (λ (b : Bus). b.window) (outcome_events_run t (begun t s image) image))

pub instant_steps : (image : Image) (t : ℕ) (s : Bus)
    → (outcome (instant t s) image).0.steps ≡ steps_left t (outcome (after_window_start t s) image).steps
instant_steps image t s =
    rw (outcome_instant t s image)
    ((delivery_keeps image t (run_by_events t s image)).steps
    ∙ ap (λ (b : Bus). b.steps) (outcome_events_run t (begun t s image) image))

-- ---- a window starts, or none does

module _ (image : Image) (t : ℕ) (s : Bus) where
  abbrev handed_out : List TimedStep
  handed_out = steps_of (image (Events (t / 10000)))

  pub starts : (t == s.window) ≡ true → outcome (after_window_start t s) image ≡ with_window t handed_out s
  unfolding after_window_start
  starts e = rw e refl

  pub goes_on : (t == s.window) ≡ false → outcome (after_window_start t s) image ≡ s
  unfolding after_window_start
  goes_on e = rw e refl

asked_number : (i : ℕ) → (10000 * i) / 10000 ≡ i
asked_number i = omega arith

itself : (t : ℕ) → (t == t) ≡ true
itself t = grind (arith, nat_tests)

other_moment : (t u : ℕ) → t ≢ u → (t == u) ≡ false
other_moment t u differ = by (t == u) refl
  where
    same : (t == u) ≡ true → t ≡ u
    same e = grind (arith, nat_tests)

    by : (b : Bool) → (t == u) ≡ b → (t == u) ≡ false
    by true e = absurd (differ (same e))
    by false e = e

pub no_window_starts : (t : ℕ) (s : Bus) → t ≢ s.window → after_window_start t s ≡ Answer s
unfolding after_window_start
no_window_starts t s differ = rw (other_moment t s.window differ) refl

pub window_reads : (image : Image) (i : ℕ) (s : Bus) → s.window ≡ 10000 * i
    → reads (after_window_start (10000 * i) s) image ≡ (Events i, image (Events i)) ∷ []
unfolding after_window_start
window_reads image i s e = rw (e, itself (10000 * i), asked_number i) refl

-- ---- in time

it_is : (t moment : ℕ) → (t == moment) ≡ true → t ≡ moment
it_is t moment e = grind (arith, nat_tests)

it_is_later : (t moment : ℕ) → (t == moment) ≡ false → t ≤ moment → t + 1 ≤ moment
it_is_later t moment e h = grind (arith, nat_tests)

next_window : (t moment : ℕ) → t ≡ moment → IsNextWindow t moment → IsNextWindow (t + 1) (t + 10000)
next_window t moment e h =
    let number = h.multiple.0 in
    let is = h.multiple.1 in
    record {
      multiple = (number + 1, omega (arith, e, is));
      from = omega arith;
      first = omega arith;
    }

same_window : (t moment : ℕ) → t + 1 ≤ moment → IsNextWindow t moment → IsNextWindow (t + 1) moment
same_window t moment later h = record { multiple = h.multiple; from = later; first = omega (arith, h.first) }

pub begun_window : (image : Image) (t : ℕ) (s : Bus) → IsNextWindow t s.window
    → IsNextWindow (t + 1) (outcome (after_window_start t s) image).window
begun_window image t s h = by (t == s.window) refl
  where
    by : (b : Bool) → (t == s.window) ≡ b → IsNextWindow (t + 1) (outcome (after_window_start t s) image).window
    by true e = rw (starts image t s e) (next_window t s.window (it_is t s.window e) h)
    by false e = rw (goes_on image t s e) (same_window t s.window (it_is_later t s.window e h.from) h)

pub each_window : (image : Image) (t : ℕ) (s : Bus) → IsNextWindow t s.window
    → IsNextWindow (t + 1) (outcome (instant t s) image).0.window
each_window image t s h = rw (instant_window image t s) (begun_window image t s h)

within_from : (i : ℕ) (steps : List TimedStep) → AllByRecursion (IsWithin i) steps → LieFrom (10000 * i) steps
within_from i [] h = All-nil (λ (step : TimedStep). 10000 * i ≤ step.time)
within_from i (step ∷ steps) h =
    All-cons (λ (step : TimedStep). 10000 * i ≤ step.time) step steps h.0.0 (within_from i steps h.1)

window_from : (t moment : ℕ) → t ≡ moment → IsNextWindow t moment → 10000 * (t / 10000) ≡ t
window_from t moment e h =
    let is = h.multiple.1 in
    let number : t / 10000 ≡ h.multiple.0 = ap (λ (n : ℕ). n / 10000) (e ∙ is) ∙ asked_number h.multiple.0 in
    ap (λ (n : ℕ). 10000 * n) number ∙ sym (e ∙ is)

-- the events that may run at the moment t
record HasSteps (t : ℕ) (s : Bus) : Type 0 where
  order : AreInOrder s.steps
  from : LieFrom t s.steps

begun_steps : (image : Image) (t : ℕ) (s : Bus) → IsImage image → IsInTime t s
    → HasSteps t (outcome (after_window_start t s) image)
begun_steps image t s fits h = by (t == s.window) refl
  where
    by : (b : Bool) → (t == s.window) ≡ b → HasSteps t (outcome (after_window_start t s) image)
    by true e =
        rw (starts image t s e)
        (record {
          order = fits.ordered (t / 10000);
          from = rw (window_from t s.window (it_is t s.window e) h.window) at (within_from (t / 10000)
              (handed_out image t s) (fits.within (t / 10000)));
        })
    by false e = rw (goes_on image t s e) (record { order = h.order; from = h.from })

pub in_time_after : (image : Image) (t : ℕ) (s : Bus) → IsImage image → IsInTime t s
    → IsInTime (t + 1) (outcome (instant t s) image).0
in_time_after image t s fits h =
    let steps = begun_steps image t s fits h in
    record {
      window = each_window image t s h.window;
      order = rw (instant_steps image t s) (left_in_order t (outcome (after_window_start t s) image).steps steps.order);
      from = rw (instant_steps image t s)
          (left_later t (outcome (after_window_start t s) image).steps steps.order steps.from);
    }

pub in_time_first : (image : Image) → IsInTime 0 (outcome power_on image)
unfolding power_on
in_time_first image =
    rw (outcome_power_on_of (roster_of (image Roster)) image)
    (record {
      window = record { multiple = (0, refl); from = omega arith; first = omega arith };
      order = tt;
      from = All-nil (λ (step : TimedStep). 0 ≤ step.time);
    })

-- ---- the events of each moment

-- what has not run once a window was begun, if one is
begun_has : (image : Image) (t : ℕ) (s : Bus) → IsImage image → HasItsEvents image t s
    → (outcome (after_window_start t s) image).steps ≡ steps_from t (window_of image t)
begun_has image t s fits h = by (t == s.window) refl
  where
    by : (b : Bool) → (t == s.window) ≡ b → (outcome (after_window_start t s) image).steps
        ≡ steps_from t (window_of image t)
    by true e =
        let from : LieFrom t (window_of image t) =
        rw (window_from t s.window (it_is t s.window e) h.window) at (within_from (t / 10000) (window_of image t)
        (fits.within (t / 10000))) in
        rw (starts image t s e) (sym (all_stay t (window_of image t) from))
    by false e = rw (goes_on image t s e) (h.steps (omega (arith, it_is_later t s.window e h.window.from)))

pub due_are_its_events : (image : Image) (t : ℕ) (s : Bus) → IsImage image → HasItsEvents image t s
    → steps_due t (outcome (after_window_start t s) image).steps ≡ filter (has_time t) (window_of image t)
due_are_its_events image t s fits h =
    ap (steps_due t) (begun_has image t s fits h) ∙ due_of_all t (window_of image t) (fits.ordered (t / 10000))

same_number : (t i : ℕ) → t + 1 < 10000 * i → 10000 * i < t + 1 + 10000 → (t + 1) / 10000 ≡ t / 10000
same_number t i h k = omega (arith, h, k)

pub has_events_after : (image : Image) (t : ℕ) (s : Bus) → IsImage image → HasItsEvents image t s
    → HasItsEvents image (t + 1) (outcome (instant t s) image).0
has_events_after image t s fits h =
    let next = each_window image t s h.window in
    record {
      window = next;
      steps = λ within.
          let is = next.multiple.1 in
          let number = same_number t next.multiple.0 (omega (arith, within, is)) (omega (arith, next.first, is)) in
          instant_steps image t s
          ∙ ap (steps_left t) (begun_has image t s fits h)
          ∙ left_of_all t (window_of image t) (fits.ordered (t / 10000))
          ∙ ap (λ (i : ℕ). steps_from (t + 1) (steps_of (image (Events i)))) (sym number);
    }

none_below : (n : ℕ) → n ≡ 0 → 0 < n → ⊥
none_below n e h = omega (arith, e, h)

pub has_events_first : (image : Image) → HasItsEvents image 0 (outcome power_on image)
unfolding power_on
has_events_first image =
    rw (outcome_power_on_of (roster_of (image Roster)) image)
    (record {
      window = record { multiple = (0, refl); from = omega arith; first = omega arith };
      steps = λ within. absurd (none_below 0 refl within);
    })
