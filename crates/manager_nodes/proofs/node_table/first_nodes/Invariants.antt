use Rattle.std.proofs.Common.{◌≡◌, map, take}
use Rattle.manager_nodes.specs.Table.{first_node}
use Rattle.manager_nodes.proofs.node_table.first_nodes.Given as goal

abbrev pub invariant-loop-number : goal.invariant-loop-number
invariant-loop-number l = l.nodes.items ≡ map (first_node l.manager) (take l.number-index l.numbers)
