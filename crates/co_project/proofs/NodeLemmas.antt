-- The map that a tree of nodes makes.
use Rattle.std.proofs.Common.{◌≡◌, ℕ, sym, ◌∙◌, List, true, false, Bool, cond, Some, None, Ok, Err, IsSome, refl, ap}
use Rattle.std.proofs.Common.{subst}
use Rattle.std.specs.BTreeMap.{BTreeMap, Updates, WritesThrough, get_by}
use Rattle.std.specs.Option.{option_map_or}
use Rattle.std.specs.Ordering.{nat_cmp, eq_by_cmp}
use Rattle.std.specs.FinMap.{contains_key, from_entries, get, get-insert, insert, remove, same_map}
use Rattle.std.proofs.lemmas.Cmp.{nat_cmp_total}
use Rattle.std.proofs.lemmas.Map.Lookups.{exact_unsigned}
use Rattle.base.proofs.TableLemmas.{alike, get_made, made_put}
use Rattle.project_edits.specs.declared.fault.EditFault.TheVariants.{Limit, Unknown}
use Rattle.node_parameters.specs.Params.{Texts, is_full_for}
use Rattle.co_project.specs.declared.node.Node.{Node}
use Rattle.co_project.specs.Tables.{Nodes, adds_param, put_need, put_node, put_param, drop_param, node_after_put}
use Rattle.co_project.specs.Tables.{with_need}

-- a node that is put where it is
pub same_put : (nodes : Nodes) (id : ℕ) (node : Node) → get nodes id ≡ Some node → insert nodes id node ≡ nodes
same_put nodes id node there = same_map nat_cmp_total exact_unsigned _ _ (λ q. get-insert nat_cmp_total nodes id node q
    ∙ by q (eq_by_cmp nat_cmp q id) refl)
  where
    by : (q : ℕ) (t : Bool) → eq_by_cmp nat_cmp q id ≡ t → cond t (Some node) (get nodes q) ≡ get nodes q
    by q true same = sym there ∙ ap (get nodes) (sym (alike nat_cmp_total exact_unsigned q id same))
    by q false other = refl

module _ (tree : BTreeMap ℕ Node) (nodes : Nodes) (id : ℕ) (is : from_entries tree.entries ≡ nodes) where
  -- a node that the tree has
  pub node_found : (node : Node) → Some node ≡ get_by (nat_cmp id) tree → get nodes id ≡ Some node
  node_found node found = ap (λ m. get m id) (sym is) ∙ get_made nat_cmp_total exact_unsigned tree.entries id
      ∙ sym found

  -- one that it hasn't
  pub node_missing : None ≡ get_by (nat_cmp id) tree → get nodes id ≡ None
  node_missing none = ap (λ m. get m id) (sym is) ∙ get_made nat_cmp_total exact_unsigned tree.entries id ∙ sym none

  module _ (after : BTreeMap ℕ Node) where
    -- nothing is changed
    pub nodes_stay : after ≡ tree → from_entries after.entries ≡ nodes
    nodes_stay same = ap (λ t. from_entries t.entries) same ∙ is

    -- a node that is put
    pub node_put : (node : Node) → Updates nat_cmp tree after id (Some node)
        → from_entries after.entries ≡ insert nodes id node
    node_put node updates = made_put nat_cmp_total exact_unsigned tree.entries after.entries id node updates.0
        ∙ ap (λ m. insert m id node) is

    module _ (old new : Node) (found : Some old ≡ get_by (nat_cmp id) tree)
        (writes : WritesThrough nat_cmp (nat_cmp id) tree new after) where
      -- a known node that is changed
      pub node_changed : from_entries after.entries ≡ insert nodes id new
      node_changed = node_put new (writes.3 (subst IsSome found refl))

      -- or is left as it was
      pub node_stays : new ≡ old → from_entries after.entries ≡ nodes
      node_stays same = node_changed ∙ ap (insert nodes id) same ∙ same_put nodes id old (node_found old found)

module _ (nodes new : Nodes) (id : ℕ) (name eds : List ℕ) where
  -- a known node with another name and EDS
  pub node_renamed : (node : Node) → get nodes id ≡ Some node
      → new ≡ insert nodes id (node_after_put name eds (Some node)) → new ≡ put_node nodes id name eds
  node_renamed node found is = is ∙ ap (λ o. insert nodes id (node_after_put name eds o)) (sym found)

  -- a new node
  pub node_added : get nodes id ≡ None → new ≡ insert nodes id (node_after_put name eds None)
      → new ≡ put_node nodes id name eds
  node_added none is = is ∙ ap (λ o. insert nodes id (node_after_put name eds o)) (sym none)

module _ (nodes new : Nodes) (id : ℕ) (mandatory : Bool) where
  -- a known node that is mandatory or optional
  pub need_set : (node : Node) → get nodes id ≡ Some node → new ≡ insert nodes id (with_need mandatory node)
      → new ≡ put_need nodes id mandatory
  need_set node found is =
      is ∙ ap (λ o. option_map_or (λ n. insert nodes id (with_need mandatory n)) o nodes) (sym found)

  -- an unknown one
  pub need_unknown : get nodes id ≡ None → new ≡ nodes → new ≡ put_need nodes id mandatory
  need_unknown none is =
      is ∙ ap (λ o. option_map_or (λ n. insert nodes id (with_need mandatory n)) o nodes) (sym none)

module _ (nodes : Nodes) (id : ℕ) (place : ℕ × ℕ) where
  -- an unknown node gets no parameter
  pub put_in_unknown : (text : List ℕ) → get nodes id ≡ None → put_param nodes id place text ≡ Err Unknown
  put_in_unknown text none = rw none refl

  -- and loses none
  pub drop_in_unknown : get nodes id ≡ None → drop_param nodes id place ≡ Err Unknown
  drop_in_unknown none = rw none refl

  module _ (node : Node) (found : get nodes id ≡ Some node) where
    -- a known node that can have no other parameter
    pub param_refused : (text : List ℕ) → is_full_for node.params place ≡ true
        → put_param nodes id place text ≡ Err Limit
    param_refused text full = rw (found, full) refl

    -- a known node that gets one
    pub param_put : (new : Nodes) (text : List ℕ) (params : Texts) → is_full_for node.params place ≡ false
        → params ≡ insert node.params place text
        → new ≡ insert nodes id (record node { params = params }) → put_param nodes id place text ≡ Ok new
    param_put new text params room are is = rw (found, room)
        (ap Ok (sym (is ∙ ap (λ p. insert nodes id (record node { params = p })) are)))

    -- a known node without the parameter
    pub param_missing : contains_key node.params place ≡ false → drop_param nodes id place ≡ Err Unknown
    param_missing none = rw (found, none) refl

    -- a known node that loses it
    pub param_dropped : (new : Nodes) (params : Texts) → contains_key node.params place ≡ true
        → params ≡ remove node.params place
        → new ≡ insert nodes id (record node { params = params }) → drop_param nodes id place ≡ Ok new
    param_dropped new params there are is = rw (found, there)
        (ap Ok (sym (is ∙ ap (λ p. insert nodes id (record node { params = p })) are)))

    -- or has no text for an entry yet
    pub param_added : get node.params place ≡ None → adds_param nodes id place ≡ true
    param_added none = rw (found, none) refl
