-- What stands in all entries of a map, where one of them is changed in something else.
use Rattle.std.proofs.Common.{◌≡◌, Bool, true, false, cond, ◌&&◌, T, List, [], ◌∷◌, map, filter_map, Option, Some}
use Rattle.std.proofs.Common.{option_map, refl, sym, ap, subst, ◌∙◌}
use Rattle.std.specs.declared.cmp.Ordering.{Ordering}
use Rattle.std.specs.List.{cons_option}
use Rattle.std.specs.Ordering.{eq_by_cmp, is_lt}
use Rattle.std.specs.FinMap.{entries, entries_sorted, find, get, get-entries, get-insert, insert, is_sorted, FinMap}
use Rattle.std.specs.FinMap.Entries.{below_all, same_entries}
use Rattle.std.specs.Cmp.{IsTotalOrder}
use Rattle.std.proofs.lemmas.Map.Lookups.{CmpEqualImpliesEq}
use Rattle.base.proofs.TableLemmas.{alike}

module _ {K X Y : Type 0} (s : X → Y) where
  -- this of an entry's value
  abbrev pub shown : K × X → K × Y
  shown e = (e.0, s e.1)

  -- what is found by it alone
  pub filter_shown : {Z : Type 0} (f : K × Y → Option Z) (es : List (K × X))
      → filter_map (λ e. f (shown e)) es ≡ filter_map f (map shown es)
  filter_shown f [] = refl
  filter_shown f (e ∷ es) = ap (cons_option (f (shown e))) (filter_shown f es)

shown_if : {X Y : Type 0} (s : X → Y) (t : Bool) (x : X) (o : Option X)
    → cond t (Some (s x)) (option_map s o) ≡ option_map s (cond t (Some x) o)
shown_if s true x o = refl
shown_if s false x o = refl

module _ {K X Y : Type 0} (R : K → K → Ordering) (s : X → Y) where
  find_shown : (q : K) (es : List (K × X)) → find R q (map (shown s) es) ≡ option_map s (find R q es)
  find_shown q [] = refl
  find_shown q (e ∷ es) =
      ap (cond (eq_by_cmp R q e.0) (Some (s e.1))) (find_shown q es)
      ∙ shown_if s (eq_by_cmp R q e.0) e.1 (find R q es)

  below_shown : (x : K) (es : List (K × X)) → below_all R x (map (shown s) es) ≡ below_all R x es
  below_shown x [] = refl
  below_shown x (e ∷ es) = ap (λ t. is_lt (R x e.0) && t) (below_shown x es)

  sorted_shown : (es : List (K × X)) → is_sorted R (map (shown s) es) ≡ is_sorted R es
  sorted_shown [] = refl
  sorted_shown (e ∷ es) =
      ap (λ t. t && is_sorted R (map (shown s) es)) (below_shown e.0 es)
      ∙ ap (λ t. below_all R e.0 es && t) (sorted_shown es)

module _ {K X Y : Type 0} {R : K → K → Ordering} (s : X → Y) (total : IsTotalOrder R) (exact : CmpEqualImpliesEq R)
    (m : FinMap R X) (k : K) (old new : X) (there : get m k ≡ Some old) (same : s new ≡ s old) where
  get_alike : (q : K) → option_map s (get (insert m k new) q) ≡ option_map s (get m q)
  get_alike q = ap (option_map s) (get-insert total m k new q) ∙ by (eq_by_cmp R q k) refl
    where
      by : (t : Bool) → eq_by_cmp R q k ≡ t → option_map s (cond t (Some new) (get m q)) ≡ option_map s (get m q)
      by true tie = ap Some same ∙ ap (option_map s) (sym (ap (get m) (alike total exact q k tie) ∙ there))
      by false other = refl

  -- it is the same in all entries
  pub entries_alike : map (shown s) (entries (insert m k new)) ≡ map (shown s) (entries m)
  entries_alike =
      same_entries R total exact (map (shown s) (entries (insert m k new))) (map (shown s) (entries m))
      (subst T (sym (sorted_shown R s (entries (insert m k new)))) (entries_sorted (insert m k new)))
      (subst T (sym (sorted_shown R s (entries m))) (entries_sorted m))
      (λ q.
      find_shown R s q (entries (insert m k new))
      ∙ ap (option_map s) (sym (get-entries (insert m k new) q)) ∙ get_alike q
      ∙ ap (option_map s) (get-entries m q) ∙ sym (find_shown R s q (entries m)))
