-- The steps of a window, where an event of other windows is put or taken away.
use Rattle.std.proofs.Common.{◌≡◌, ◌∙◌, ℕ, ◌+◌, ◌*◌, Bool, true, false, ◌==◌, ◌&&◌, List, [], ◌∷◌, Option, Some, None}
use Rattle.std.proofs.Common.{is_some, filter_map, option_map, option_and_then, refl, sym, ap}
use Rattle.std.specs.FinMap.{contains_key-keys, get, keys, same_map}
use Rattle.std.specs.List.{cons_option, AllByRecursion}
use Rattle.std.specs.Option.{option_map_or}
use Rattle.std.proofs.lemmas.Bool.{eqb-true, false≢true}
use Rattle.base.specs.Ranges.{is_between}
use Rattle.co_scenario.specs.Scenario.{events_between, moments_between, Events, HasEventBetween}
use Rattle.co_scenario.specs.declared.timed_event.TimedEvent.{TimedEvent}
use Rattle.co_scenario.proofs.BetweenLemmas.{fits, listed, moments_exact, moments_total}
use Rattle.project_plan.specs.Events.{step_of, Shapes}
use Rattle.network_image.specs.Steps.{at_moment, steps_in, timed_step_of}
use Rattle.network_image.proofs.StepLemmas.{moments_have_events}

same_unit : (a b : Option (Unit {0})) → is_some a ≡ is_some b → a ≡ b
same_unit None None e = refl
same_unit None (Some u) e = absurd (false≢true e)
same_unit (Some u) None e = absurd (false≢true (sym e))
same_unit (Some u) (Some v) e = refl

-- what is picked by equal choices
same_picked : {X Y : Type 0} (f g : X → Option Y) (P : X → Type 0) → ((x : X) → P x → f x ≡ g x) → (xs : List X)
    → AllByRecursion P xs → filter_map f xs ≡ filter_map g xs
same_picked f g P same [] all = refl
same_picked f g P same (x ∷ xs) all =
    ap (λ o. cons_option o (filter_map f xs)) (same x all.0)
    ∙ ap (cons_option (g x)) (same_picked f g P same xs all.1)

module _ (first last : ℕ) (a b : Events) (number : ℕ) where
  abbrev lies : Option TimedEvent → Bool
  lies o = option_map_or (λ (e : TimedEvent). is_between first last e.time) o false

  module _ (others : (n : ℕ) → (n == number) ≡ false → get b n ≡ get a n) (was : lies (get a number) ≡ false)
      (is : lies (get b number) ≡ false) where
    -- an event elsewhere has no moment here
    no_moment : (q : ℕ × ℕ) (o : Option TimedEvent) → lies o ≡ false → fits first last q o ≡ false
    no_moment q None out = refl
    no_moment q (Some e) out = by (e.time == q.0) refl
      where
        by : (t : Bool) → (e.time == q.0) ≡ t → (t && is_between first last q.0) ≡ false
        by true same = sym (ap (is_between first last) (eqb-true e.time q.0 same)) ∙ out
        by false apart = refl

    same_fits : (q : ℕ × ℕ) → fits first last q (get b q.1) ≡ fits first last q (get a q.1)
    same_fits q = by (q.1 == number) refl
      where
        by : (t : Bool) → (q.1 == number) ≡ t → fits first last q (get b q.1) ≡ fits first last q (get a q.1)
        by true same =
            let n : q.1 ≡ number = eqb-true q.1 number same in
            ap (λ k. fits first last q (get b k)) n ∙ no_moment q (get b number) is
            ∙ sym (ap (λ k. fits first last q (get a k)) n ∙ no_moment q (get a number) was)
        by false apart = ap (fits first last q) (others q.1 apart)

    same_moments : events_between first last b ≡ events_between first last a
    unfolding events_between
    same_moments =
        ap keys (same_map moments_total moments_exact (moments_between first last b) (moments_between first last a)
        (λ q. same_unit _ _
        (contains_key-keys (moments_between first last b) q ∙ listed first last q b ∙ same_fits q
        ∙ sym (contains_key-keys (moments_between first last a) q ∙ listed first last q a))))

    -- the event of a moment here is another
    same_step : (shapes : Shapes) (m : ℕ × ℕ) → HasEventBetween first last a m
        → timed_step_of shapes b m ≡ timed_step_of shapes a m
    unfolding timed_step_of
    same_step shapes m has =
        ap (λ (o : Option TimedEvent). option_map (at_moment m)
        (option_and_then (λ (e : TimedEvent). step_of shapes e.event) o))
        (others m.1 (apart (m.1 == number) refl))
      where
        apart : (t : Bool) → (m.1 == number) ≡ t → t ≡ false
        apart true same =
            let here : lies (get a number) ≡ true =
            ap (λ k. lies (get a k)) (sym (eqb-true m.1 number same)) ∙ ap lies has.1.0
            ∙ ap (is_between first last) has.1.1 ∙ has.1.2 in
            absurd (false≢true (sym was ∙ here))
        apart false other = refl

    same_steps : (shapes : Shapes) → filter_map (timed_step_of shapes b) (events_between first last b)
        ≡ filter_map (timed_step_of shapes a) (events_between first last a)
    same_steps shapes =
        ap (filter_map (timed_step_of shapes b)) same_moments
        ∙ same_picked (timed_step_of shapes b) (timed_step_of shapes a) (HasEventBetween first last a)
        (same_step shapes) (events_between first last a) (moments_have_events a first last)

-- the steps of a window stay where the event of a number was elsewhere and is elsewhere
pub steps_left : (i : ℕ) (shapes : Shapes) (a b : Events) (number : ℕ)
    → ((n : ℕ) → (n == number) ≡ false → get b n ≡ get a n)
    → option_map_or (λ (e : TimedEvent). is_between (10000 * i) (10000 * i + 9999) e.time) (get a number) false ≡ false
    → option_map_or (λ (e : TimedEvent). is_between (10000 * i) (10000 * i + 9999) e.time) (get b number) false ≡ false
    → steps_in shapes b i ≡ steps_in shapes a i
unfolding steps_in
steps_left i shapes a b number others was is =
    same_steps (10000 * i) (10000 * i + 9999) a b number others was is shapes
