use Rattle.std.proofs.Common.{◌≡◌, take}
use Rattle.manager_nodes.proofs.node_table.same_nodes.Given as goal

abbrev pub invariant-loop-place : goal.invariant-loop-place
invariant-loop-place l = take l.place l.nodes ≡ take l.place l.others
