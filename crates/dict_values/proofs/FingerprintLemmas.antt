-- The fingerprint of values of which one is another.
use Rattle.std.proofs.Common.{◌≡◌, ℕ, ◌+◌, ◌-◌, ◌<◌, ◌%◌, List, [], ◌∷◌, Option, Some, None, Bool, true, false}
use Rattle.std.proofs.Common.{cond, length, ◌&&◌, T, refl, sym, ap, subst, ◌∙◌, arith}
use Rattle.std.specs.Prelude.{◌^◌}
use Rattle.std.specs.declared.cmp.Ordering.{Ordering}
use Rattle.std.specs.declared.cmp.Ordering.TheVariants.{Less, Equal, Greater}
use Rattle.std.specs.List.{sum_by}
use Rattle.std.specs.Ordering.{is_eq, is_lt}
use Rattle.std.specs.FinMap.{empty, entries, entries-insert, entries_sorted, find, get, get-entries, insert, is_sorted}
use Rattle.std.specs.FinMap.{len, len-empty, len-entries, put}
use Rattle.std.specs.FinMap.Entries.{below_all, by_order}
use Rattle.std.proofs.lemmas.List.Sums.{sum_by-cons}
use Rattle.dict_values.specs.Fingerprint.{fingerprint_of, weight, weight_at}
use Rattle.dict_values.specs.Places.{place_cmp}
use Rattle.dict_values.specs.Values.{Values}
use Rattle.dict_values.proofs.PlaceLemmas.{both, part_first, part_second, places_exact, places_total}
use Rattle.dict_values.proofs.RestoredLemmas.{none_below}

abbrev adds : (ℕ × ℕ) × List ℕ → ℕ
adds e = weight e.0 e.1

-- ---- a place below all of a list has no value in it

less : (o : Ordering) → T (is_lt o) → o ≡ Less
less Less p = refl
less Equal p = absurd p
less Greater p = absurd p

below_too : (k p : ℕ × ℕ) (es : List ((ℕ × ℕ) × List ℕ)) → place_cmp k p ≡ Less → T (below_all place_cmp p es)
    → T (below_all place_cmp k es)
below_too k p [] is h = tt
below_too k p (e ∷ es) is h = both _ _
    (subst (λ r. T (is_lt r)) (sym (places_total.trans k p e.0 is (less _ (part_first _ _ h)))) tt)
    (below_too k p es is (part_second _ _ h))

-- ---- what one more value adds, and one that is replaced takes away

alone : (sum added rest : ℕ) → sum ≡ added + rest → sum + 0 ≡ added + rest
alone sum added rest is = omega arith

ahead : (sum added rest taken : ℕ) → sum ≡ added + rest → taken ≡ 0 → sum + taken ≡ added + rest
ahead sum added rest taken is nothing = omega arith

replaced : (sum added rest taken old : ℕ) → sum ≡ added + rest → old ≡ taken + rest → sum + taken ≡ added + old
replaced sum added rest taken old is was = omega arith

behind : (sum kept later added taken rest old : ℕ) → sum ≡ kept + later → later + taken ≡ added + rest
    → old ≡ kept + rest → sum + taken ≡ added + old
behind sum kept later added taken rest old is ih was = omega arith

sum_put : (k : ℕ × ℕ) (v : List ℕ) (es : List ((ℕ × ℕ) × List ℕ)) → T (is_sorted place_cmp es)
    → sum_by adds (put place_cmp k v es) + weight_at k (find place_cmp k es) ≡ weight k v + sum_by adds es
sum_put k v [] h = alone _ _ _ (sum_by-cons adds (k, v) [])
sum_put k v (e ∷ es) h =
    elim (place_cmp k e.0) as (λ r. place_cmp k e.0 ≡ r
    → sum_by adds (by_order r ((k, v) ∷ e ∷ es) ((e.0, v) ∷ es) (e ∷ put place_cmp k v es))
    + weight_at k (cond (is_eq r) (Some e.1) (find place_cmp k es)) ≡ weight k v + sum_by adds (e ∷ es)) [
      | Less ↦ λ p. ahead _ _ _ _ (sum_by-cons adds (k, v) (e ∷ es))
          (ap (weight_at k) (none_below k es (below_too k e.0 es p (part_first _ _ h))))
      | Equal ↦ λ p. subst (λ q. sum_by adds ((e.0, v) ∷ es) + weight q e.1 ≡ weight q v + sum_by adds (e ∷ es))
          (sym (places_exact k e.0 p))
          (replaced _ _ _ _ _ (sum_by-cons adds (e.0, v) es) (sum_by-cons adds e es))
      | Greater ↦ λ p. behind _ _ _ _ _ _ _ (sum_by-cons adds e (put place_cmp k v es))
          (sum_put k v es (part_second _ _ h)) (sum_by-cons adds e es)
    ] refl

-- ---- in 64 bits

wrapped : (sum new taken added : ℕ) → taken < 2 ^ 64 → new + taken ≡ added + sum
    → ((sum % 2 ^ 64 + (2 ^ 64 - taken)) % 2 ^ 64 + added) % 2 ^ 64 ≡ new % 2 ^ 64
wrapped sum new taken added within is = omega arith

pub one_changed : (values : Values) (k : ℕ × ℕ) (v : List ℕ) (fingerprint taken added : ℕ) → taken < 2 ^ 64
    → fingerprint ≡ fingerprint_of values → taken ≡ weight_at k (get values k) → added ≡ weight k v
    → ((fingerprint + (2 ^ 64 - taken)) % 2 ^ 64 + added) % 2 ^ 64 ≡ fingerprint_of (insert values k v)
unfolding fingerprint_of
one_changed values k v fingerprint taken added within is taking adding =
    ap (λ f. ((f + (2 ^ 64 - taken)) % 2 ^ 64 + added) % 2 ^ 64) is
    ∙ wrapped (sum_by adds (entries values)) (sum_by adds (put place_cmp k v (entries values))) taken added within
    (ap (λ n. sum_by adds (put place_cmp k v (entries values)) + n)
    (taking ∙ ap (weight_at k) (get-entries values k))
    ∙ sum_put k v (entries values) (entries_sorted values) ∙ ap (λ n. n + sum_by adds (entries values)) (sym adding))
    ∙ sym (ap (λ es. sum_by adds es % 2 ^ 64) (entries-insert places_total values k v))

-- no values have the fingerprint 0
none_listed : (es : List ((ℕ × ℕ) × List ℕ)) → length es ≡ 0 → 0 ≡ sum_by adds es % 2 ^ 64
none_listed [] h = refl
none_listed (e ∷ es) h = absurd (omega arith)

pub none_counted : (values : Values) → values ≡ empty → 0 ≡ fingerprint_of values
unfolding fingerprint_of
none_counted values nothing = none_listed (entries values)
    (sym (len-entries values) ∙ ap len nothing ∙ len-empty place_cmp (List ℕ))
