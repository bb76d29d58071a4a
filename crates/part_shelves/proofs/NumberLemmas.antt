-- The numbers of nodes.
use Rattle.std.proofs.Common.{◌≡◌, ℕ, Bool, true, false, ◌||◌, ◌==◌, cond, List, [], ◌∷◌, Some, is_some, refl, sym}
use Rattle.std.proofs.Common.{ap, ◌∙◌}
use Rattle.std.specs.Cmp.{tied_itself}
use Rattle.std.specs.FinMap.{contains_key, entries, find, get-entries}
use Rattle.std.specs.List.{list_any}
use Rattle.std.specs.Ordering.{eq_by_cmp, is_eq, nat_cmp}
use Rattle.std.proofs.lemmas.Bool.{eq-eqb, eqb-true}
use Rattle.std.proofs.lemmas.Cmp.{nat_cmp_total}
use Rattle.std.proofs.lemmas.Map.Lookups.{exact_unsigned}
use Rattle.base.proofs.TableLemmas.{apart}
use Rattle.co_project.specs.declared.node.Node.{Node}
use Rattle.co_project.specs.Tables.{Nodes}

-- numbers tie where they are the same
ties : (q k : ℕ) → eq_by_cmp nat_cmp q k ≡ (k == q)
ties q k = by (k == q) refl
  where
    by : (t : Bool) → (k == q) ≡ t → eq_by_cmp nat_cmp q k ≡ t
    by true same =
        ap (λ n. eq_by_cmp nat_cmp q n) (eqb-true k q same) ∙ ap is_eq (tied_itself nat_cmp_total q)
    by false other =
        apart nat_cmp_total exact_unsigned q k (λ e. let one : (k == q) ≡ true = eq-eqb k q (sym e) in cc)

any_found : (q : ℕ) (es : List (ℕ × Node)) → list_any (λ e. e.0 == q) es ≡ is_some (find nat_cmp q es)
any_found q [] = refl
any_found q (e ∷ es) =
    ap (λ t. t || list_any (λ x. x.0 == q) es) (sym (ties q e.0))
    ∙ by (eq_by_cmp nat_cmp q e.0) (any_found q es)
  where
    by : (t : Bool) → list_any (λ x. x.0 == q) es ≡ is_some (find nat_cmp q es)
        → (t || list_any (λ x. x.0 == q) es) ≡ is_some (cond t (Some e.1) (find nat_cmp q es))
    by true rest = refl
    by false rest = rest

-- the nodes have those of their entries
pub numbers_known : (nodes : Nodes) (es : List (ℕ × Node)) → es ≡ entries nodes → (q : ℕ)
    → list_any (λ e. e.0 == q) es ≡ contains_key nodes q
numbers_known nodes es all q =
    ap (list_any (λ (e : ℕ × Node). e.0 == q)) all ∙ any_found q (entries nodes) ∙ ap is_some (sym (get-entries nodes q))
