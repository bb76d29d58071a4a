-- In which node the manager runs, before and after an edit.
use Rattle.std.proofs.Common.{◌≡◌, ◌∙◌, ℕ, ◌==◌, Bool, true, false, not, ◌&&◌, ◌||◌, cond, Option, Some, None, is_some}
use Rattle.std.proofs.Common.{refl, sym, ap}
use Rattle.std.specs.Prelude.{if◌then◌else◌}
use Rattle.std.specs.FinMap.{contains_key, get, get-insert, get-remove, insert, remove}
use Rattle.std.specs.Ordering.{eq_by_cmp, nat_cmp}
use Rattle.std.proofs.lemmas.Bool.{eq-eqb, eqb-true, false≢true, or_parts}
use Rattle.std.proofs.lemmas.Cmp.{nat_cmp_total}
use Rattle.std.proofs.lemmas.Map.Lookups.{exact_unsigned}
use Rattle.base.proofs.TableLemmas.{alike, apart}
use Rattle.project_edits.specs.declared.manager_settings.ManagerSettings.{ManagerSettings}
use Rattle.co_project.specs.declared.node.Node.{Node}
use Rattle.co_project.specs.Project.{controller_of, has_controller, is_controller, Content as Project}
use Rattle.co_project.specs.Tables.{Nodes}
use Rattle.project_parts.specs.Touched.{moves_controller}
use Rattle.project_parts.proofs.EditLemmas.{with_node}

-- ---- which numbers are nodes'

module _ (nodes : Nodes) (id : ℕ) where
  -- a node in the place of one
  pub still_there : (old new : Node) → get nodes id ≡ Some old → (n : ℕ)
      → contains_key (insert nodes id new) n ≡ contains_key nodes n
  still_there old new there n = ap is_some (get-insert nat_cmp_total nodes id new n) ∙ by (eq_by_cmp nat_cmp n id) refl
    where
      by : (t : Bool) → eq_by_cmp nat_cmp n id ≡ t → is_some (cond t (Some new) (get nodes n)) ≡ is_some (get nodes n)
      by true same = sym (ap (λ k. is_some (get nodes k)) (alike nat_cmp_total exact_unsigned n id same) ∙ ap is_some there)
      by false other = refl

  pub node_there : (change : Node → Node) (o : Option Node) → get nodes id ≡ o → (n : ℕ)
      → contains_key (with_node nodes id change o) n ≡ contains_key nodes n
  node_there change None none n = refl
  node_there change (Some node) there n = still_there node (change node) there n

  tied_apart : (n : ℕ) → (n == id) ≡ false → eq_by_cmp nat_cmp n id ≡ false
  tied_apart n other = apart nat_cmp_total exact_unsigned n id (λ one. false≢true (sym other ∙ eq-eqb n id one))

  -- other numbers than that of a node that comes or goes
  pub put_beside : (node : Node) (n : ℕ) → (n == id) ≡ false → contains_key (insert nodes id node) n ≡ contains_key nodes n
  put_beside node n other =
      ap is_some (get-insert nat_cmp_total nodes id node n
      ∙ ap (λ t. cond t (Some node) (get nodes n)) (tied_apart n other))

  pub removed_beside : (n : ℕ) → (n == id) ≡ false → contains_key (remove nodes id) n ≡ contains_key nodes n
  removed_beside n other =
      ap is_some (get-remove nat_cmp_total nodes id n ∙ ap (λ t. cond t None (get nodes n)) (tied_apart n other))

-- ---- the controller

pub no_test : (a : Bool) → a && false ≡ false
no_test true = refl
no_test false = refl

module _ (p : Project) where
  -- another number of the manager, which moves no controller
  module _ (m : ManagerSettings) (unmoved : moves_controller p m.id ≡ false) where
    manager_alike : {X : Type 0} (f : Bool → ℕ → X) → f false m.id ≡ f false p.manager.id
        → f (contains_key p.nodes m.id) m.id ≡ f (contains_key p.nodes p.manager.id) p.manager.id
    manager_alike {X} f none = by (m.id == p.manager.id) refl unmoved
      where
        by : (t : Bool) → (m.id == p.manager.id) ≡ t → not t && (has_controller p || contains_key p.nodes m.id) ≡ false
            → f (contains_key p.nodes m.id) m.id ≡ f (contains_key p.nodes p.manager.id) p.manager.id
        by true same h = ap (λ id. f (contains_key p.nodes id) id) (eqb-true m.id p.manager.id same)
        by false other h =
            let parts = or_parts (has_controller p) (contains_key p.nodes m.id) h in
            ap (λ t. f t m.id) parts.1 ∙ none ∙ sym (ap (λ t. f t p.manager.id) parts.0)

    pub same_controller : controller_of (record p { manager = m }) ≡ controller_of p
    same_controller = manager_alike (λ t id. if t then Some id else None) refl

    pub same_test : (n : ℕ) → is_controller (record p { manager = m }) n ≡ is_controller p n
    same_test n = manager_alike (λ t id. t && (n == id)) refl

  -- other nodes, but not at the number of the manager
  pub with_others : (nodes : Nodes) (n : ℕ) → ((k : ℕ) → k ≡ n → contains_key nodes k ≡ contains_key p.nodes k)
      → is_controller (record p { nodes = nodes }) n ≡ is_controller p n
  with_others nodes n same = by (n == p.manager.id) refl
    where
      by : (t : Bool) → (n == p.manager.id) ≡ t
          → contains_key nodes p.manager.id && t ≡ contains_key p.nodes p.manager.id && t
      by true one = ap (λ t. t && true) (same p.manager.id (sym (eqb-true n p.manager.id one)))
      by false other = no_test (contains_key nodes p.manager.id) ∙ sym (no_test (contains_key p.nodes p.manager.id))
