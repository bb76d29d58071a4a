use Rattle.std.proofs.Common.{◌≡◌, ◌++◌, take}
use Rattle.std.specs.List.{flat_map}
use Rattle.nmt_boot.specs.Startup.{start_with_network}
use Rattle.nmt_boot.proofs.telling.start_each.Given as goal

abbrev pub invariant-loop-node : goal.invariant-loop-node
invariant-loop-node l = l.waiting ≡ l.fn.waiting ++ flat_map start_with_network (take l.node-index l.nodes)
