-- Entries in the order of their keys, where one is put or taken away.
use Rattle.std.proofs.Common.{◌≡◌, Bool, true, false, cond, T, List, [], ◌∷◌, length, All, refl, sym, ap, subst}
use Rattle.std.proofs.Common.{◌∙◌}
use Rattle.std.proofs.lemmas.List.Elements.{All-nil, All-cons, All-head, All-tail}
use Rattle.std.proofs.lemmas.Map.Lookups.{CmpEqualImpliesEq}
use Rattle.std.specs.declared.cmp.Ordering.{Ordering}
use Rattle.std.specs.declared.cmp.Ordering.TheVariants.{Less, Equal, Greater}
use Rattle.std.specs.Ordering.{is_lt, match_ordering}
use Rattle.std.specs.Cmp.{IsTotalOrder}
use Rattle.std.specs.List.{AllByRecursion}
use Rattle.std.specs.List.Sorted.{IsStrictlySortedBy}
use Rattle.std.specs.Map.{keys_of, remove_entry}
use Rattle.std.specs.BTreeMap.{insert_entry}
use Rattle.std.specs.FinMap.{FinMap, empty, entries, entries-from_sorted, entries-insert, from_sorted, insert}
use Rattle.std.specs.FinMap.{is_sorted, len-empty, len-entries}
use Rattle.std.specs.FinMap.Entries.{below_all, by_order, is_sorted-put}
use Rattle.std.specs.FinMap.Entries as in_order
use Rattle.base.proofs.EachLemmas.{first_part, made_again, put_all, second_part}
use Rattle.base.proofs.TableLemmas.{is_sorted_from}

below : (o : Ordering) → T (is_lt o) → o ≡ Less
below Less h = refl
below Equal h = absurd h
below Greater h = absurd h

no_elements : {A : Type 0} (xs : List A) → length xs ≡ 0 → xs ≡ []
no_elements [] h = refl
no_elements (x ∷ xs) h = cc

module _ {K X : Type 0} (R : K → K → Ordering) where
  below_each : (k : K) (es : List (K × X)) → T (below_all R k es) → AllByRecursion (λ x. R k x ≡ Less) (keys_of es)
  below_each k [] h = tt
  below_each k (e ∷ es) h = (below (R k e.0) (first_part _ _ h), below_each k es (second_part _ _ h))

  -- the keys strictly rise
  strict_from : (es : List (K × X)) → T (is_sorted R es) → IsStrictlySortedBy R (keys_of es)
  unfolding IsStrictlySortedBy
  strict_from [] h = tt
  strict_from (e ∷ es) h = (below_each e.0 es (first_part _ _ h), strict_from es (second_part _ _ h))

  -- a tree's entry is put as that of a table
  same_put : (es : List (K × X)) (k : K) (v : X) → insert_entry R es k v ≡ in_order.put R k v es
  same_put [] k v = refl
  same_put (e ∷ es) k v =
      elim (R k e.0) as (λ o. match_ordering o ((k, v) ∷ e ∷ es) ((e.0, v) ∷ es) (e ∷ insert_entry R es k v)
      ≡ by_order o ((k, v) ∷ e ∷ es) ((e.0, v) ∷ es) (e ∷ in_order.put R k v es)) [
        | Less ↦ refl
        | Equal ↦ refl
        | Greater ↦ ap (λ (t : List (K × X)). e ∷ t) (same_put es k v)
      ]

  -- what holds of each entry and of a new one
  pub All-put : (P : K × X → Type 0) (es : List (K × X)) (k : K) (v : X) → CmpEqualImpliesEq R → All P es → P (k, v)
      → All P (insert_entry R es k v)
  All-put P [] k v exact all new = All-cons P (k, v) [] new (All-nil P)
  All-put P (e ∷ es) k v exact all new = by (R k e.0) refl (All-put P es k v exact (All-tail P e es all) new)
    where
      by : (o : Ordering) → R k e.0 ≡ o → All P (insert_entry R es k v)
          → All P (match_ordering o ((k, v) ∷ e ∷ es) ((e.0, v) ∷ es) (e ∷ insert_entry R es k v))
      by Less h rest = All-cons P (k, v) (e ∷ es) new all
      by Equal h rest = All-cons P (e.0, v) es (subst (λ (x : K). P (x, v)) (exact k e.0 h) new) (All-tail P e es all)
      by Greater h rest = All-cons P e (insert_entry R es k v) (All-head P e es all) rest

  module _ (total : IsTotalOrder R) (exact : CmpEqualImpliesEq R) where
    -- in order with one more
    pub strict-put : (es : List (K × X)) (k : K) (v : X) → IsStrictlySortedBy R (keys_of es)
        → IsStrictlySortedBy R (keys_of (insert_entry R es k v))
    strict-put es k v h =
        subst (λ (l : List (K × X)). IsStrictlySortedBy R (keys_of l)) (sym (same_put es k v))
        (strict_from (in_order.put R k v es) (is_sorted-put R total k v es (is_sorted_from total exact es h)))

    -- entries put one after the other
    abbrev pub put_entries : List (K × X) → List (K × X) → List (K × X)
    put_entries es [] = es
    put_entries es (e ∷ more) = put_entries (insert_entry R es e.0 e.1) more

    -- are those of a table to which they are put
    put_to : (m : FinMap R X) (more : List (K × X)) → put_entries (entries m) more ≡ entries (put_all m more)
    unfolding put_all
    put_to m [] = refl
    put_to m (e ∷ more) = ap (λ es. put_entries es more)
        (same_put (entries m) e.0 e.1 ∙ sym (entries-insert total m e.0 e.1)) ∙ put_to (insert m e.0 e.1) more

    -- those in order, put to none, are the same again
    pub entries_again : (es : List (K × X)) → IsStrictlySortedBy R (keys_of es) → put_entries [] es ≡ es
    entries_again es h =
        let sorted : T (is_sorted R es) = is_sorted_from total exact es h in
        let whole : entries (from_sorted {R = R} es) ≡ es = entries-from_sorted R es sorted in
        let none : entries (empty {X = X} {R = R}) ≡ [] = no_elements (entries empty)
        (sym (len-entries (empty {X = X} {R = R})) ∙ len-empty R X) in
        ap (λ front. put_entries front es) (sym none) ∙ put_to empty es ∙ ap (λ l. entries (put_all (empty {R = R}) l))
        (sym whole) ∙ ap entries (made_again total exact (from_sorted es)) ∙ whole

-- ---- one less

module _ {K X : Type 0} (test : K → Bool) where
  -- what holds of each entry holds of those that are left
  pub All-left : (P : K × X → Type 0) (es : List (K × X)) → All P es → All P (remove_entry test es)
  All-left P [] all = all
  All-left P (e ∷ es) all = by (test e.0) (All-left P es (All-tail P e es all))
    where
      by : (t : Bool) → All P (remove_entry test es) → All P (cond t es (e ∷ remove_entry test es))
      by true rest = All-tail P e es all
      by false rest = All-cons P e (remove_entry test es) (All-head P e es all) rest

  all_left : (P : K → Type 0) (es : List (K × X)) → AllByRecursion P (keys_of es)
      → AllByRecursion P (keys_of (remove_entry test es))
  all_left P [] all = tt
  all_left P (e ∷ es) all = by (test e.0) (all_left P es all.1)
    where
      by : (t : Bool) → AllByRecursion P (keys_of (remove_entry test es))
          → AllByRecursion P (keys_of (cond t es (e ∷ remove_entry test es)))
      by true rest = all.1
      by false rest = (all.0, rest)

  -- they are in order
  pub strict-left : (R : K → K → Ordering) (es : List (K × X)) → IsStrictlySortedBy R (keys_of es)
      → IsStrictlySortedBy R (keys_of (remove_entry test es))
  unfolding IsStrictlySortedBy
  strict-left R [] h = tt
  strict-left R (e ∷ es) h = by (test e.0) (strict-left R es h.1)
    where
      by : (t : Bool) → IsStrictlySortedBy R (keys_of (remove_entry test es))
          → IsStrictlySortedBy R (keys_of (cond t es (e ∷ remove_entry test es)))
      by true rest = h.1
      by false rest = (all_left (λ x. R e.0 x ≡ Less) es h.0, rest)
