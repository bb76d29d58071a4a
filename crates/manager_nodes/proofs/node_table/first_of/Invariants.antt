use Rattle.std.proofs.Common.{◌≡◌, drop}
use Rattle.base.specs.Moments.{earlier, earliest}
use Rattle.manager_nodes.specs.Table.{deadlines}
use Rattle.manager_nodes.proofs.node_table.first_of.Given as goal

abbrev pub invariant-loop-node : goal.invariant-loop-node
invariant-loop-node l = earlier l.first (earliest (deadlines (drop l.node-index l.nodes)))
    ≡ earliest (deadlines l.fn.nodes)
