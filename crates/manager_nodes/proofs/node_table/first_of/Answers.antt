use Rattle.std.proofs.Common.{◌∙◌}
use Rattle.manager_nodes.proofs.EarliestLemmas.{one_more_at, at_end}
use Rattle.manager_nodes.proofs.node_table.first_of.Goals as goal

pub loop-node-preserved : goal.loop-node-preserved
loop-node-preserved c =
    let loop = c.loop-node in
    one_more_at loop.first c.earlier-first.result c.deadline_of.result c.args.nodes.now loop.node-index
    c.node-item.result c.loop-node-test.true c.node-item.is c.deadline_of.ensures c.earlier-first.ensures
    ∙ loop.invariant

pub returns : goal.returns
returns c = at_end c.loop-node.first c.args.nodes.now c.loop-node.node-index c.loop-node-test.false
    ∙ c.loop-node.invariant
