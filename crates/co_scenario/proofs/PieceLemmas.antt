-- The events between two times, cut at a time between them.
use Rattle.std.proofs.Common.{◌≡◌, ℕ, ◌+◌, ◌≤◌, ◌<◌, ◌==◌, Bool, true, false, cond, ◌&&◌, ◌||◌, List, [], ◌∷◌, ◌++◌}
use Rattle.std.proofs.Common.{BTreeSet, Contains, Option, Some, None, drop, length, take, refl, sym, ap, ◌∙◌, arith}
use Rattle.std.specs.Prelude.{nat_le}
use Rattle.std.specs.List.{AllByRecursion, list_any, prefix_len}
use Rattle.std.specs.List.Sorted.{IsStrictlySortedBy}
use Rattle.std.specs.FinMap.{get}
use Rattle.std.specs.Ordering.{eq_by_cmp, nat_cmp, ordering_then}
use Rattle.std.specs.declared.cmp.Ordering.{Ordering}
use Rattle.std.specs.declared.cmp.Ordering.TheVariants.{Less}
use Rattle.std.proofs.lemmas.Bool.{and_parts, le-leb, leb-true, lt-leb}
use Rattle.std.proofs.lemmas.Bool.Decides.{nat_tests}
use Rattle.std.proofs.lemmas.List.{drop_at, take_at}
use Rattle.std.proofs.lemmas.List.Elements.{All-contains_itself, recursion_from_All}
use Rattle.std.proofs.lemmas.List.Folds.{list_any-append}
use Rattle.std.proofs.lemmas.Map.Lookups.{btree_set_from_contains}
use Rattle.base.specs.Ranges.{is_between}
use Rattle.co_scenario.proofs.BetweenLemmas.{fits, has_exactly, listed, moments_exact, moments_total, rise}
use Rattle.co_scenario.specs.Scenario.{events_between, moment_cmp, Events}
use Rattle.co_scenario.specs.declared.timed_event.TimedEvent.{TimedEvent}

-- ---- lists one after the other

module _ {X : Type 0} where
  weaker : (P Q : X → Type 0) → ((x : X) → P x → Q x) → (xs : List X) → AllByRecursion P xs → AllByRecursion Q xs
  weaker P Q follows [] all = tt
  weaker P Q follows (x ∷ xs) all = (follows x all.0, weaker P Q follows xs all.1)

  of_both : (P : X → Type 0) (xs ys : List X) → AllByRecursion P xs → AllByRecursion P ys → AllByRecursion P (xs ++ ys)
  of_both P [] ys all more = more
  of_both P (x ∷ xs) ys all more = (all.0, of_both P xs ys all.1 more)

  -- they rise where each rises, and the first lies below the second
  both_rise : (cmp : X → X → Ordering) (xs ys : List X) → IsStrictlySortedBy cmp xs → IsStrictlySortedBy cmp ys
      → AllByRecursion (λ x. AllByRecursion (λ y. cmp x y ≡ Less) ys) xs → IsStrictlySortedBy cmp (xs ++ ys)
  unfolding IsStrictlySortedBy
  both_rise cmp [] ys first second below = second
  both_rise cmp (x ∷ xs) ys first second below =
      (of_both (λ y. cmp x y ≡ Less) xs ys first.0 below.0, both_rise cmp xs ys first.1 second below.1)

  -- where each of the first passes a test, and none of the second, the first are those at the front that pass
  module _ (test : X → Bool) where
    front_len : (xs ys : List X) → AllByRecursion (λ x. test x ≡ true) xs → AllByRecursion (λ y. test y ≡ false) ys
        → prefix_len test (xs ++ ys) ≡ length xs
    front_len [] [] pass fail = refl
    front_len [] (y ∷ ys) pass fail = ap (λ t. cond t (1 + prefix_len test ys) 0) fail.0
    front_len (x ∷ xs) ys pass fail =
        let rest : prefix_len test (xs ++ ys) ≡ length xs = front_len xs ys pass.1 fail in
        let more : 1 + prefix_len test (xs ++ ys) ≡ length (x ∷ xs) = omega (arith, rest) in
        ap (λ t. cond t (1 + prefix_len test (xs ++ ys)) 0) pass.0 ∙ more

    module _ (xs ys zs : List X) (are : zs ≡ xs ++ ys) (pass : AllByRecursion (λ x. test x ≡ true) xs)
        (fail : AllByRecursion (λ y. test y ≡ false) ys) where
      front : take (prefix_len test zs) zs ≡ xs
      front = ap (λ l. take (prefix_len test l) l) are
          ∙ take_at xs ys (prefix_len test (xs ++ ys)) (sym (front_len xs ys pass fail))

      behind : drop (prefix_len test zs) zs ≡ ys
      behind = ap (λ l. drop (prefix_len test l) l) are
          ∙ drop_at xs ys (prefix_len test (xs ++ ys)) (sym (front_len xs ys pass fail))

-- ---- the times of moments

abbrev LiesFrom : ℕ → ℕ → ℕ × ℕ → Type 0
LiesFrom first last moment = (first ≤ moment.0) × (moment.0 ≤ last)

lies : (first last n : ℕ) → is_between first last n ≡ true → (first ≤ n) × (n ≤ last)
lies first last n h = let parts = and_parts (nat_le first n) (nat_le n last) h
    in (leb-true first n parts.0, leb-true n last parts.1)

each_lies : (events : Events) (first last : ℕ) → AllByRecursion (LiesFrom first last) (events_between first last events)
each_lies events first last =
    let moments : List (ℕ × ℕ) = events_between first last events in
    weaker (Contains moments) (LiesFrom first last)
    (λ m there. lies first last m.0 ((has_exactly first last m events).0 there).1.2) moments
    (recursion_from_All (Contains moments) moments (All-contains_itself moments))

sooner : (a b : ℕ) → a < b → nat_cmp a b ≡ Less
sooner a b below = grind (arith, nat_tests)

comes_before : (a b : ℕ × ℕ) → a.0 < b.0 → moment_cmp a b ≡ Less
comes_before a b below = ap (λ o. ordering_then o (nat_cmp a.1 b.1)) (sooner a.0 b.0 below)

-- a time between two lies up to the middle or behind it
between_both : (first middle last n : ℕ) → first ≤ middle + 1 → middle ≤ last
    → is_between first last n ≡ (is_between first middle n || is_between (middle + 1) last n)
between_both first middle last n low high = grind (arith, nat_tests)

module _ (events : Events) (first middle last : ℕ) (low : first ≤ middle + 1) (high : middle ≤ last) where
  abbrev early : List (ℕ × ℕ)
  early = events_between first middle events

  abbrev late : List (ℕ × ℕ)
  late = events_between (middle + 1) last events

  pieces_rise : IsStrictlySortedBy moment_cmp (early ++ late)
  pieces_rise = both_rise moment_cmp early late (rise events first middle) (rise events (middle + 1) last)
      (weaker (LiesFrom first middle) (λ m. AllByRecursion (λ n. moment_cmp m n ≡ Less) late)
      (λ m here. weaker (LiesFrom (middle + 1) last) (λ n. moment_cmp m n ≡ Less)
      (λ n there. comes_before m n (omega (arith, here.1, there.0))) late (each_lies events (middle + 1) last))
      early (each_lies events first middle))

  fits_both : (q : ℕ × ℕ) (o : Option TimedEvent)
      → fits first last q o ≡ (fits first middle q o || fits (middle + 1) last q o)
  fits_both q None = refl
  fits_both q (Some event) = by (event.time == q.0)
    where
      by : (t : Bool) → (t && is_between first last q.0)
          ≡ ((t && is_between first middle q.0) || (t && is_between (middle + 1) last q.0))
      by true = between_both first middle last q.0 low high
      by false = refl

  same_moments : (q : ℕ × ℕ) → list_any (eq_by_cmp moment_cmp q) (events_between first last events)
      ≡ list_any (eq_by_cmp moment_cmp q) (early ++ late)
  same_moments q =
      listed first last q events ∙ fits_both q (get events q.1)
      ∙ sym (λ i. listed first middle q events i || listed (middle + 1) last q events i)
      ∙ sym (list_any-append (eq_by_cmp moment_cmp q) early late)

  -- THEY ARE those up to the middle, and then the others
  pub pieces : events_between first last events ≡ events_between first middle events
      ++ events_between (middle + 1) last events
  pieces =
      let whole : BTreeSet (ℕ × ℕ) = record { keys = events_between first last events } in
      let parts : BTreeSet (ℕ × ℕ) = record { keys = early ++ late } in
      btree_set_from_contains moments_total whole parts (rise events first last) pieces_rise same_moments moments_exact

  -- ---- those up to the middle stand at the front

  up_to : AllByRecursion (λ (m : ℕ × ℕ). nat_le m.0 middle ≡ true) early
  up_to = weaker (LiesFrom first middle) (λ m. nat_le m.0 middle ≡ true) (λ m here. le-leb m.0 middle here.1) early
      (each_lies events first middle)

  after : AllByRecursion (λ (m : ℕ × ℕ). nat_le m.0 middle ≡ false) late
  after = weaker (LiesFrom (middle + 1) last) (λ m. nat_le m.0 middle ≡ false)
      (λ m there. lt-leb m.0 middle (omega (arith, there.0))) late (each_lies events (middle + 1) last)

  module _ (moments : List (ℕ × ℕ)) (are : moments ≡ events_between first last events) where
    pub first_piece : take (prefix_len (λ m. nat_le m.0 middle) moments) moments ≡ events_between first middle events
    first_piece = front (λ (m : ℕ × ℕ). nat_le m.0 middle) early late moments (are ∙ pieces) up_to after

    pub other_piece : drop (prefix_len (λ m. nat_le m.0 middle) moments) moments
        ≡ events_between (middle + 1) last events
    other_piece = behind (λ (m : ℕ × ℕ). nat_le m.0 middle) early late moments (are ∙ pieces) up_to after
