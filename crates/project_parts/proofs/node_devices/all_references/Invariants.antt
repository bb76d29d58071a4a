use Rattle.std.proofs.Common.{◌≡◌, ◌++◌, length}
use Rattle.pdo_stations.specs.Shown.{nodes_of}
use Rattle.project_parts.proofs.node_devices.all_references.Given as goal

abbrev pub invariant-loop-rest : goal.invariant-loop-rest
invariant-loop-rest l = nodes_of l.nodes.items ++ l.rest ≡ l.items

abbrev pub decreases-loop-rest : goal.decreases-loop-rest
decreases-loop-rest l = length l.rest
