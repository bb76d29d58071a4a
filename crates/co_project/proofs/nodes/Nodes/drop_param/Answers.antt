use Rattle.std.proofs.Common.{◌∙◌, sym, refl, ℕ}
use Rattle.std.specs.FinMap as map
use Rattle.co_project.specs.declared.node.Node.{Node}
use Rattle.co_project.proofs.NodeLemmas.{drop_in_unknown, node_changed, node_found, node_missing, node_stays}
use Rattle.co_project.proofs.NodeLemmas.{nodes_stay, param_dropped, param_missing}
use Rattle.co_project.proofs.nodes.Nodes.drop_param.Goals as goal

pub returns-in_default-clause-accepts : goal.returns-in_default-clause-accepts
returns-in_default-clause-accepts c =
    let tree = c.self.inside.nodes in
    let nodes = c.args.self.now in
    let place : ℕ × ℕ = (c.args.index, c.args.sub) in (
      drop_in_unknown nodes c.args.id place (node_missing tree nodes c.args.id c.self.view_is
          c.in_default.ensures.value),
      nodes_stay tree nodes c.args.id c.self.view_is c.get_mut.follows.lender-at-none c.get_mut.follows.holds-at-none,
    )

pub returns-then-not-contains-clause-accepts : goal.returns-then-not-contains-clause-accepts
returns-then-not-contains-clause-accepts c =
    let tree = c.self.inside.nodes in
    let nodes = c.args.self.now in
    let place : ℕ × ℕ = (c.args.index, c.args.sub) in
    let node = c.in-Some.node.now in
    let found = c.in-Some.ensures.value in (
      param_missing nodes c.args.id place node (node_found tree nodes c.args.id c.self.view_is node found)
          (sym c.contains.ensures ∙ c.if-not-contains.true),
      node_stays tree nodes c.args.id c.self.view_is (c.get_mut.follows.lender node) node node found
          (c.get_mut.follows.holds node) refl,
    )

pub returns-clause-accepts : goal.returns-clause-accepts
returns-clause-accepts c =
    let tree = c.self.inside.nodes in
    let nodes = c.args.self.now in
    let place : ℕ × ℕ = (c.args.index, c.args.sub) in
    let node = c.in-Some.node.now in
    let new : Node = record node { params = c.remove.new.self } in
    let after = c.get_mut.follows.lender new in
    let found = c.in-Some.ensures.value in
    param_dropped nodes c.args.id place node (node_found tree nodes c.args.id c.self.view_is node found)
    (map.from_entries after.entries) c.remove.new.self
    (sym c.contains.ensures ∙ c.if-not-contains.false) c.remove.ensures
    (node_changed tree nodes c.args.id c.self.view_is after node new found (c.get_mut.follows.holds new))
