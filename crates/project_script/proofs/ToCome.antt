-- Entries that are still to come to a table.
use Rattle.std.proofs.Common.{◌≡◌, true, false, Bool, cond, T, List, ◌∷◌, Option, Some, IfSome, refl, sym, ap, subst}
use Rattle.std.proofs.Common.{◌∙◌}
use Rattle.std.proofs.lemmas.Map.Lookups.{CmpEqualImpliesEq}
use Rattle.std.specs.declared.cmp.Ordering.{Ordering}
use Rattle.std.specs.Cmp.{IsTotalOrder, tied_itself}
use Rattle.std.specs.Ordering.{eq_by_cmp, is_eq}
use Rattle.std.specs.FinMap.{FinMap, find, get, get-insert, insert, is_sorted}
use Rattle.base.proofs.EachLemmas.{find_below, first_part}
use Rattle.base.proofs.TableLemmas.{alike}

module _ {K X : Type 0} {R : K → K → Ordering} (P : X → Option X → Type 0) where
  -- what holds of each of them and what the table has at its key now
  abbrev pub AreToCome : FinMap R X → List (K × X) → Type 0
  AreToCome m back = (q : K) → IfSome (find R q back) (λ v. P v (get m q))

  module _ (total : IsTotalOrder R) (exact : CmpEqualImpliesEq R) (m : FinMap R X) (e : K × X) (back : List (K × X))
      (come : AreToCome m (e ∷ back)) where
    -- holds of the first
    pub first_to_come : P e.1 (get m e.0)
    first_to_come = subst (λ o. IfSome (cond (is_eq o) (Some e.1) (find R e.0 back)) (λ v. P v (get m e.0)))
        (tied_itself total e.0) (come e.0)

    -- and of the others, once it has come
    pub others_to_come : T (is_sorted R (e ∷ back)) → AreToCome (insert m e.0 e.1) back
    others_to_come sorted q = by (eq_by_cmp R q e.0) refl (get-insert total m e.0 e.1 q) (come q)
      where
        by : (t : Bool) → eq_by_cmp R q e.0 ≡ t → get (insert m e.0 e.1) q ≡ cond t (Some e.1) (get m q)
            → IfSome (cond t (Some e.1) (find R q back)) (λ v. P v (get m q))
            → IfSome (find R q back) (λ v. P v (get (insert m e.0 e.1) q))
        by true same now h =
            subst (λ (o : Option X). IfSome o (λ v. P v (get (insert m e.0 e.1) q)))
            (sym (ap (λ x. find R x back) (alike total exact q e.0 same)
            ∙ find_below R e.0 back (first_part _ _ sorted))) tt
        by false other now h = subst (λ (o : Option X). IfSome (find R q back) (λ v. P v o)) (sym now) h
