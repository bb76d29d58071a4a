-- The manager is never among the mandatory nodes of a project's roster.
use Rattle.std.proofs.Common.{◌≡◌, ◌≢◌, ℕ, ◌==◌, ◌||◌, ◌&&◌, not, Bool, true, false, cond, List, [], ◌∷◌, refl, sym, ap, ◌∙◌}
use Rattle.std.proofs.Common.{arith}
use Rattle.std.specs.Prelude.{filter}
use Rattle.std.specs.Cmp.{tied_itself}
use Rattle.std.specs.FinMap.{contains_key-keys, entries}
use Rattle.std.specs.List.{AllByRecursion, list_any}
use Rattle.std.specs.Map.{keys_of}
use Rattle.std.specs.Ordering.{eq_by_cmp, is_eq, nat_cmp}
use Rattle.std.proofs.lemmas.Bool.{false≢true}
use Rattle.std.proofs.lemmas.Bool.Decides.{nat_tests}
use Rattle.std.proofs.lemmas.Cmp.{nat_cmp_total}
use Rattle.co_project.specs.declared.node.Node.{Node}
use Rattle.co_project.specs.Project.{Content as Project, has_controller}
use Rattle.network_image.proofs.RosterLemmas.{keys_left}
use Rattle.network_image.specs.Image.{mandatory_of, roster_of_project}

itself : (n : ℕ) → (n == n) ≡ true
itself n = grind (arith, nat_tests)

differs : (n k : ℕ) → (n == k) ≡ false → n ≢ k
differs n k other same = false≢true (sym other ∙ ap (λ x. x == k) same ∙ itself k)

module _ (id : ℕ) where
  abbrev AreOthers : List ℕ → Type 0
  AreOthers numbers = AllByRecursion (λ n. n ≢ id) numbers

  abbrev rest : List (ℕ × Node) → List (ℕ × Node)
  rest es = filter (λ e. e.1.mandatory && not (e.0 == id)) es

  -- the test leaves this number out
  others_left : (es : List (ℕ × Node)) → AreOthers (keys_of (rest es))
  others_left [] = tt
  others_left (e ∷ es) = by e.1.mandatory (e.0 == id) refl (others_left es)
    where
      by : (mandatory same : Bool) → (e.0 == id) ≡ same → AreOthers (keys_of (rest es))
          → AreOthers (keys_of (cond (mandatory && not same) (e ∷ rest es) (rest es)))
      by true true is others = others
      by true false is others = (differs e.0 id is, others)
      by false same is others = others

  -- or no key of the table is it
  others_known : (es : List (ℕ × Node)) → list_any (eq_by_cmp nat_cmp id) (keys_of es) ≡ false
      → AreOthers (keys_of es)
  others_known [] none = tt
  others_known (e ∷ es) none = by (eq_by_cmp nat_cmp id e.0) refl none (others_known es)
    where
      by : (same : Bool) → eq_by_cmp nat_cmp id e.0 ≡ same
          → (same || list_any (eq_by_cmp nat_cmp id) (keys_of es)) ≡ false
          → (list_any (eq_by_cmp nat_cmp id) (keys_of es) ≡ false → AreOthers (keys_of es))
          → AreOthers (keys_of (e ∷ es))
      by true is some more = absurd (false≢true (sym some))
      by false is none more = (
        λ same. false≢true (sym is ∙ ap (eq_by_cmp nat_cmp id) same ∙ ap is_eq (tied_itself nat_cmp_total id)),
        more none,
      )

others_mandatory : (p : Project) → AllByRecursion (λ n. n ≢ p.manager.id) (mandatory_of p)
others_mandatory p = by (has_controller p) refl
  where
    by : (has : Bool) → has_controller p ≡ has
        → AllByRecursion (λ n. n ≢ p.manager.id)
        (keys_of (filter (λ e. e.1.mandatory && not (has && (e.0 == p.manager.id))) (entries p.nodes)))
    by true is = others_left p.manager.id (entries p.nodes)
    by false is =
        keys_left (λ n. n ≢ p.manager.id)
        (λ (e : ℕ × Node). e.1.mandatory && not (false && (e.0 == p.manager.id))) (entries p.nodes)
        (others_known p.manager.id (entries p.nodes) (sym (contains_key-keys p.nodes p.manager.id) ∙ is))

pub never_mandatory : (p : Project)
    → AllByRecursion (λ n. n ≢ (roster_of_project p).manager) (roster_of_project p).mandatory
unfolding roster_of_project
never_mandatory p = others_mandatory p
