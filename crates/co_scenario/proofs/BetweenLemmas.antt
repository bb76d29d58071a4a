-- Events by time and then by number.
use Rattle.std.proofs.Common.{◌≡◌, ℕ, ◌==◌, Bool, true, false, cond, ◌&&◌, T, List, [], ◌∷◌, Option, Some, None, Result}
use Rattle.std.proofs.Common.{Ok, Err, IfOk, map, is_some, refl, sym, ap, ◌∙◌}
use Rattle.std.specs.Map.{keys_of}
use Rattle.base.proofs.TableLemmas.{alike, apart, entries_made}
use Rattle.std.specs.Bool.{Decides}
use Rattle.std.specs.Prelude.{◌↔◌, ◌≢◌, Contains}
use Rattle.std.specs.List.{list_any}
use Rattle.std.proofs.lemmas.Map.Made.{is_member-Decides}
use Rattle.std.proofs.lemmas.Bool.{and_parts, eq-eqb, eqb-true, false≢true}
use Rattle.std.proofs.lemmas.Cmp.{on_total, then_total, nat_cmp_total}
use Rattle.std.proofs.lemmas.Map.Lookups.{CmpEqualImpliesEq, exact_pairs, exact_unsigned}
use Rattle.std.specs.Cmp.{IsTotalOrder, tied_itself}
use Rattle.std.specs.List.{filter}
use Rattle.std.specs.Option.{option_or}
use Rattle.std.specs.Ordering.{eq_by_cmp, is_eq, is_lt, nat_cmp}
use Rattle.std.specs.FinMap.{contains_key-keys, empty, entries, entries_sorted, find, from_entries, get, get-empty}
use Rattle.std.specs.FinMap.{get-entries, get-from_entries, get-insert, insert, is_sorted, same_map}
use Rattle.std.specs.declared.cmp.Ordering.{Ordering}
use Rattle.std.specs.declared.cmp.Ordering.TheVariants.{Less, Equal, Greater}
use Rattle.std.specs.List.{AllByRecursion}
use Rattle.std.specs.List.Sorted.{IsStrictlySortedBy}
use Rattle.std.specs.FinMap.Entries.{below_all}
use Rattle.base.proofs.EachLemmas.{find_below, first_part, second_part}
use Rattle.base.specs.Ranges.{is_between}
use Rattle.co_scenario.specs.Scenario.{events_between, HasEventBetween, moment_cmp, moments_between, moments_of, Events}
use Rattle.co_scenario.specs.Scenario.{Moments}
use Rattle.co_scenario.specs.declared.timed_event.TimedEvent.{TimedEvent}

pub moments_exact : CmpEqualImpliesEq moment_cmp
moments_exact = exact_pairs nat_cmp nat_cmp exact_unsigned exact_unsigned

pub moments_total : IsTotalOrder moment_cmp
moments_total = then_total (on_total (λ (p : ℕ × ℕ). p.0) nat_cmp_total) (on_total (λ (p : ℕ × ℕ). p.1) nat_cmp_total)

module _ (first last : ℕ) where
  abbrev pub with_moment : ℕ × TimedEvent → Moments → Moments
  with_moment e moments = cond (is_between first last e.1.time) (insert moments (e.1.time, e.0) tt) moments

  -- events one after the other
  unfoldable pub put_moments : List (ℕ × TimedEvent) → Moments → Moments
  put_moments [] moments = moments
  put_moments (e ∷ es) moments = put_moments es (with_moment e moments)

  abbrev made : List (ℕ × TimedEvent) → Moments
  made es = from_entries (moments_of first last es)

  -- what is there once they are put
  get_put : (es : List (ℕ × TimedEvent)) (moments : Moments) (q : ℕ × ℕ)
      → get (put_moments es moments) q ≡ option_or (get (made es) q) (get moments q)
  unfolding put_moments
  get_put [] moments q = ap (λ o. option_or o (get moments q)) (sym (get-empty moment_cmp q))
  get_put (e ∷ es) moments q = get_put es (with_moment e moments) q ∙ by (is_between first last e.1.time)
    where
      k : ℕ × ℕ
      k = (e.1.time, e.0)

      tied : (t : Bool) (o p : Option (Unit {0})) → option_or o (cond t (Some tt) p) ≡ option_or (cond t (Some tt) o) p
      tied true None p = refl
      tied true (Some u) p = refl
      tied false o p = refl

      by : (t : Bool) → option_or (get (made es) q) (get (cond t (insert moments k tt) moments) q)
          ≡ option_or (get (from_entries {R = moment_cmp}
          (map (λ (f : ℕ × TimedEvent). ((f.1.time, f.0), tt))
          (cond t (e ∷ filter (λ f. is_between first last f.1.time) es)
          (filter (λ f. is_between first last f.1.time) es)))) q) (get moments q)
      by true =
          ap (option_or (get (made es) q)) (get-insert moments_total moments k tt q)
          ∙ tied (eq_by_cmp moment_cmp q k) (get (made es) q) (get moments q)
          ∙ ap (λ o. option_or o (get moments q)) (sym (get-insert moments_total (made es) k tt q))
      by false = refl

  alone : (o : Option (Unit {0})) → option_or o None ≡ o
  alone None = refl
  alone (Some u) = refl

  pub all_put : (events : Events) → put_moments (entries events) empty ≡ moments_between first last events
  unfolding moments_between
  all_put events = same_map moments_total moments_exact _ _ (λ q.
      get_put (entries events) empty q ∙ ap (option_or (get (made (entries events)) q)) (get-empty moment_cmp q)
      ∙ alone (get (made (entries events)) q))

  -- an event that lies between, and one that doesn't
  pub one_put : (e : ℕ × TimedEvent) (es rest : List (ℕ × TimedEvent)) (moments after : Moments) → es ≡ e ∷ rest
      → is_between first last e.1.time ≡ true
      → after ≡ insert moments (e.1.time, e.0) tt → put_moments rest after ≡ put_moments es moments
  unfolding put_moments
  one_put e es rest moments after left here is =
      ap (put_moments rest) (is ∙ ap (λ t. cond t (insert moments (e.1.time, e.0) tt) moments) (sym here))
      ∙ ap (λ fs. put_moments fs moments) (sym left)

  pub one_passed : (e : ℕ × TimedEvent) (es rest : List (ℕ × TimedEvent)) (moments : Moments) → es ≡ e ∷ rest
      → is_between first last e.1.time ≡ false
      → put_moments rest moments ≡ put_moments es moments
  unfolding put_moments
  one_passed e es rest moments left here =
      ap (put_moments rest) (ap (λ t. cond t (insert moments (e.1.time, e.0) tt) moments) (sym here))
      ∙ ap (λ fs. put_moments fs moments) (sym left)

  -- none is left
  pub all_there : (events : Events) (es : List (ℕ × TimedEvent)) (moments : Moments) → es ≡ []
      → put_moments es moments ≡ put_moments (entries events) empty
      → moments ≡ moments_between first last events
  unfolding put_moments
  all_there events es moments none is = ap (λ fs. put_moments fs moments) (sym none) ∙ is ∙ all_put events

-- whether moments, and numbers, are the same
moments_same : (a b : ℕ × ℕ) → Decides (eq_by_cmp moment_cmp a b) (a ≡ b)
moments_same a b = (
  alike moments_total moments_exact a b,
  λ same. ap (eq_by_cmp moment_cmp a) (sym same)
      ∙ ap is_eq (tied_itself moments_total a),
)

numbers_same : (a b : ℕ) → Decides (eq_by_cmp nat_cmp a b) (a ≡ b)
numbers_same a b = (
  alike nat_cmp_total exact_unsigned a b,
  λ same. ap (eq_by_cmp nat_cmp a) (sym same)
      ∙ ap is_eq (tied_itself nat_cmp_total a),
)

-- ---- what is in the list, and in which order

lesser : (o : Ordering) → T (is_lt o) → o ≡ Less
lesser Less h = refl
lesser Equal h = absurd h
lesser Greater h = absurd h

module _ {K X : Type 0} (R : K → K → Ordering) where
  below_each : (x : K) (es : List (K × X)) → T (below_all R x es)
      → AllByRecursion (λ y. R x y ≡ Less) (map (λ e. e.0) es)
  below_each x [] h = tt
  below_each x (e ∷ es) h = (lesser (R x e.0) (first_part _ _ h), below_each x es (second_part _ _ h))

  keys_rise : (es : List (K × X)) → T (is_sorted R es) → IsStrictlySortedBy R (map (λ e. e.0) es)
  unfolding IsStrictlySortedBy
  keys_rise [] h = tt
  keys_rise (e ∷ es) h = (below_each e.0 es (first_part _ _ h), keys_rise es (second_part _ _ h))

-- they rise
pub rise : (events : Events) (first last : ℕ) → IsStrictlySortedBy moment_cmp (events_between first last events)
unfolding events_between
rise events first last = keys_rise moment_cmp (entries (moments_between first last events))
    (entries_sorted (moments_between first last events))

module _ (first last : ℕ) (q : ℕ × ℕ) where
  -- whether an event has this time, and the time lies between
  abbrev pub fits : Option TimedEvent → Bool
  fits None = false
  fits (Some event) = (event.time == q.0) && is_between first last q.0

  abbrev there : List (ℕ × TimedEvent) → Bool
  there es = is_some (find moment_cmp q (moments_of first last es))

  abbrev within : List (ℕ × TimedEvent) → List (ℕ × TimedEvent)
  within es = filter (λ f. is_between first last f.1.time) es

  abbrev found : List (ℕ × TimedEvent) → Bool
  found es = is_some (find moment_cmp q (map (λ (f : ℕ × TimedEvent). ((f.1.time, f.0), tt {0})) es))

  module _ (e : ℕ × TimedEvent) (es : List (ℕ × TimedEvent)) where
    -- an event of another moment is passed
    passed : q ≢ (e.1.time, e.0) → there (e ∷ es) ≡ there es
    passed other = by (is_between first last e.1.time)
      where
        by : (t : Bool) → found (cond t (e ∷ within es) (within es)) ≡ found (within es)
        by true = ap (λ (t : Bool). is_some (cond t (Some (tt {0})) (find moment_cmp q (moments_of first last es))))
            (apart moments_total moments_exact q (e.1.time, e.0) other)
        by false = refl

    -- that of this moment is found where its time lies between
    met : q ≡ (e.1.time, e.0) → there es ≡ false → there (e ∷ es) ≡ is_between first last e.1.time
    met same none = by (is_between first last e.1.time)
      where
        by : (t : Bool) → found (cond t (e ∷ within es) (within es)) ≡ t
        by true = ap (λ (t : Bool). is_some (cond t (Some (tt {0})) (find moment_cmp q (moments_of first last es))))
            (same_moment.1 same)
          where
            same_moment : Decides (eq_by_cmp moment_cmp q (e.1.time, e.0)) (q ≡ (e.1.time, e.0))
            same_moment = moments_same q (e.1.time, e.0)
        by false = none

    -- an event of this number
    its_own : q.1 ≡ e.0 → there es ≡ false → there (e ∷ es) ≡ fits (Some e.1)
    its_own same none = by (e.1.time == q.0) refl
      where
        by : (t : Bool) → (e.1.time == q.0) ≡ t → there (e ∷ es) ≡ (t && is_between first last q.0)
        by true h =
            let time : e.1.time ≡ q.0 = eqb-true e.1.time q.0 h in
            let moment : q ≡ (e.1.time, e.0) = ap (λ n. (q.0, n)) same ∙ ap (λ n. (n, e.0)) (sym time) in
            met moment none ∙ ap (is_between first last) time
        by false h = passed (λ moment. false≢true (sym h ∙ eq-eqb e.1.time q.0 (sym (ap (λ (k : ℕ × ℕ). k.0) moment))))
            ∙ none

  -- what is found is an event of this number with this time
  found_of : (es : List (ℕ × TimedEvent)) → T (is_sorted nat_cmp es) → there es ≡ fits (find nat_cmp q.1 es)
  found_of [] sorted = refl
  found_of (e ∷ es) sorted = by (found_of es (second_part _ _ sorted)) (eq_by_cmp nat_cmp q.1 e.0) refl
    where
      by : there es ≡ fits (find nat_cmp q.1 es) → (t : Bool) → eq_by_cmp nat_cmp q.1 e.0 ≡ t
          → there (e ∷ es) ≡ fits (cond t (Some e.1) (find nat_cmp q.1 es))
      by rest true tie =
          let same : q.1 ≡ e.0 = alike nat_cmp_total exact_unsigned q.1 e.0 tie in
          its_own e es same (rest ∙ ap fits (ap (λ n. find nat_cmp n es) same
          ∙ find_below nat_cmp e.0 es (first_part _ _ sorted)))
      by rest false other =
          passed e es (λ moment. false≢true (sym other ∙ (numbers_same q.1 e.0).1 (ap (λ (k : ℕ × ℕ). k.1) moment)))
          ∙ rest

  -- the list has this moment exactly where the number has an event with this time that lies between
  pub listed : (events : Events) → list_any (eq_by_cmp moment_cmp q) (events_between first last events)
      ≡ fits (get events q.1)
  unfolding events_between moments_between
  listed events =
      sym (contains_key-keys (moments_between first last events) q)
      ∙ ap is_some (get-from_entries moments_total (moments_of first last (entries events)) q)
      ∙ found_of (entries events) (entries_sorted events) ∙ ap fits (sym (get-entries events q.1))

  told : (events : Events) → fits (get events q.1) ≡ true → HasEventBetween first last events q
  told events h = by (get events q.1) refl h
    where
      by : (o : Option TimedEvent) → get events q.1 ≡ o → fits o ≡ true → HasEventBetween first last events q
      by None is h = absurd (false≢true h)
      by (Some event) is h = let parts = and_parts (event.time == q.0) (is_between first last q.0) h
          in (event, (is, eqb-true event.time q.0 parts.0, parts.1))

  fits_again : (events : Events) → HasEventBetween first last events q → fits (get events q.1) ≡ true
  fits_again events has =
      ap fits has.1.0 ∙ ap (λ (t : Bool). t && is_between first last q.0) (eq-eqb has.0.time q.0 has.1.1) ∙ has.1.2

  pub has_exactly : (events : Events) → Contains (events_between first last events) q
      ↔ HasEventBetween first last events q
  has_exactly events =
      let tells = is_member-Decides moments_same (events_between first last events) q in (
        (λ there. told events (sym (listed events) ∙ tells.1 there)),
        (λ has. tells.0 (listed events ∙ fits_again events has)),
      )

-- the keys of a table that is made of these
pub keys_between : (events : Events) (first last : ℕ) (es : List ((ℕ × ℕ) × Unit {0}))
    → from_entries es ≡ moments_between first last events
    → {Y E : Type 0} (items : Y → List (ℕ × ℕ)) (result : Result Y E) → IfOk result (λ y. items y ≡ keys_of es)
    → IsStrictlySortedBy moment_cmp (keys_of es)
    → IfOk result (λ y. items y ≡ events_between first last events)
unfolding events_between
keys_between events first last es are items (Ok y) is sorted = is
    ∙ ap keys_of (sym (entries_made moments_total moments_exact es sorted) ∙ ap entries are)
keys_between events first last es are items (Err e) is sorted = tt
