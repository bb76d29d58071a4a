use Rattle.std.proofs.Common.{ap, ◌∙◌, false}
use Rattle.std.specs.FinMap as map
use Rattle.std.proofs.lemmas.Result.{err_from_is_err_and}
use Rattle.node_parameters.specs.Params.{Texts}
use Rattle.co_project.specs.declared.node.Node.{Node}
use Rattle.co_project.proofs.NodeLemmas.{node_added, node_changed, node_found, node_missing, node_put, node_renamed}
use Rattle.co_project.proofs.NodeLemmas.{nodes_stay}
use Rattle.co_project.proofs.nodes.Nodes.put.Goals as goal

pub returns-in-Some-clause-ok : goal.returns-in-Some-clause-ok
returns-in-Some-clause-ok c =
    let tree = c.self.inside.nodes in
    let nodes = c.args.self.now in
    let node = c.in-Some.node.now in
    let new : Node = record node { name = c.args.name; eds = c.args.eds } in
    let after = c.get_mut.follows.lender new in
    let found = c.in-Some.ensures.value in
    node_renamed nodes (map.from_entries after.entries) c.args.id c.args.name c.args.eds node
    (node_found tree nodes c.args.id c.self.view_is node found)
    (node_changed tree nodes c.args.id c.self.view_is after node new found (c.get_mut.follows.holds new))

pub returns-clause-ok : goal.returns-clause-ok
returns-clause-ok c =
    let tree = c.self.inside.nodes in
    let nodes = c.args.self.now in
    let before = c.get_mut.follows.lender-at-none in
    let with : Texts → Node = λ params. record {
      name = c.args.name;
      eds = c.args.eds;
      mandatory = false;
      params = params;
    } in
    node_added nodes (map.from_entries c.insert.new.self.entries) c.args.id c.args.name c.args.eds
    (node_missing tree nodes c.args.id c.self.view_is c.in_default.ensures.value)
    (node_put before nodes c.args.id (nodes_stay tree nodes c.args.id c.self.view_is before
    c.get_mut.follows.holds-at-none) c.insert.new.self (with c.new-params.result) c.in_ok-insert.ensures.updates
    ∙ ap (λ params. map.insert nodes c.args.id (with params)) c.new-params.ensures)

pub returns-in_err-insert-clause-absent : goal.returns-in_err-insert-clause-absent
returns-in_err-insert-clause-absent c =
    let p = err_from_is_err_and c.from_residual.result c.from_residual.ensures.1 in
    rw p.1 (node_missing c.self.inside.nodes c.args.self.now c.args.id c.self.view_is c.in_default.ensures.value)
