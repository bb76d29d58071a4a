use Rattle.std.specs.FinMap as map
use Rattle.co_project.specs.declared.node.Node.{Node}
use Rattle.co_project.specs.Tables.{with_need}
use Rattle.co_project.proofs.NodeLemmas.{need_set, need_unknown, node_changed, node_found, node_missing, nodes_stay}
use Rattle.co_project.proofs.nodes.Nodes.set_mandatory.Goals as goal

pub returns-in_default : goal.returns-in_default
returns-in_default c =
    let tree = c.self.inside.nodes in
    let nodes = c.args.self.now in
    let before = c.get_mut.follows.lender-at-none in
    need_unknown nodes (map.from_entries before.entries) c.args.id c.args.mandatory
    (node_missing tree nodes c.args.id c.self.view_is c.in_default.ensures.value)
    (nodes_stay tree nodes c.args.id c.self.view_is before c.get_mut.follows.holds-at-none)

pub returns : goal.returns
returns c =
    let tree = c.self.inside.nodes in
    let nodes = c.args.self.now in
    let node = c.in-Some.node.now in
    let new : Node = with_need c.args.mandatory node in
    let after = c.get_mut.follows.lender new in
    let found = c.in-Some.ensures.value in
    need_set nodes (map.from_entries after.entries) c.args.id c.args.mandatory node
    (node_found tree nodes c.args.id c.self.view_is node found)
    (node_changed tree nodes c.args.id c.self.view_is after node new found (c.get_mut.follows.holds new))
