use Rattle.std.proofs.Common.{◌∙◌, sym, ap, refl, ℕ}
use Rattle.std.proofs.lemmas.Result.{err_from_is_err_and}
use Rattle.std.specs.FinMap as map
use Rattle.co_project.specs.declared.node.Node.{Node}
use Rattle.co_project.proofs.NodeLemmas.{node_changed, node_found, node_missing, node_stays, nodes_stay, param_added}
use Rattle.co_project.proofs.NodeLemmas.{param_put, param_refused, put_in_unknown}
use Rattle.co_project.proofs.nodes.Nodes.put_param.Goals as goal

pub returns-in_default-clause-accepts : goal.returns-in_default-clause-accepts
returns-in_default-clause-accepts c =
    let tree = c.self.inside.nodes in
    let nodes = c.args.self.now in
    let place : ℕ × ℕ = (c.args.index, c.args.sub) in (
      put_in_unknown nodes c.args.id place c.args.text
          (node_missing tree nodes c.args.id c.self.view_is c.in_default.ensures.value),
      nodes_stay tree nodes c.args.id c.self.view_is c.get_mut.follows.lender-at-none c.get_mut.follows.holds-at-none,
    )

pub returns-then-is_full_for-clause-accepts : goal.returns-then-is_full_for-clause-accepts
returns-then-is_full_for-clause-accepts c =
    let tree = c.self.inside.nodes in
    let nodes = c.args.self.now in
    let place : ℕ × ℕ = (c.args.index, c.args.sub) in
    let node = c.in-Some.node.now in
    let found = c.in-Some.ensures.value in (
      param_refused nodes c.args.id place node (node_found tree nodes c.args.id c.self.view_is node found) c.args.text
          (sym c.is_full_for.ensures ∙ c.if-is_full_for.true),
      node_stays tree nodes c.args.id c.self.view_is (c.get_mut.follows.lender node) node node found
          (c.get_mut.follows.holds node) refl,
    )

pub returns-in_err-put-clause-accepts : goal.returns-in_err-put-clause-accepts
returns-in_err-put-clause-accepts c =
    let tree = c.self.inside.nodes in
    let node = c.in-Some.node.now in
    let new : Node = record node { params = c.put.new.self } in
    let p = err_from_is_err_and c.from_residual.result c.from_residual.ensures.1 in
    rw (p.1, p.2) (
      tt,
      node_stays tree c.args.self.now c.args.id c.self.view_is (c.get_mut.follows.lender new) node new
          c.in-Some.ensures.value (c.get_mut.follows.holds new)
          (ap (λ params. record node { params = params }) c.in_err-put.ensures.err),
    )

pub returns-clause-accepts : goal.returns-clause-accepts
returns-clause-accepts c =
    let tree = c.self.inside.nodes in
    let nodes = c.args.self.now in
    let place : ℕ × ℕ = (c.args.index, c.args.sub) in
    let node = c.in-Some.node.now in
    let new : Node = record node { params = c.put.new.self } in
    let after = c.get_mut.follows.lender new in
    let found = c.in-Some.ensures.value in
    param_put nodes c.args.id place node (node_found tree nodes c.args.id c.self.view_is node found)
    (map.from_entries after.entries) c.args.text c.put.new.self
    (sym c.is_full_for.ensures ∙ c.if-is_full_for.false) c.in_ok-put.ensures.ok
    (node_changed tree nodes c.args.id c.self.view_is after node new found (c.get_mut.follows.holds new))

pub returns-in_err-put-clause-memory : goal.returns-in_err-put-clause-memory
returns-in_err-put-clause-memory c _ =
    let place : ℕ × ℕ = (c.args.index, c.args.sub) in
    let node = c.in-Some.node.now in
    let found = c.in-Some.ensures.value in
    param_added c.args.self.now c.args.id place node
    (node_found c.self.inside.nodes c.args.self.now c.args.id c.self.view_is node found) c.in_err-put.ensures.absent
