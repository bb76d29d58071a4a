use Rattle.std.proofs.Common.{◌≡◌, ◌++◌, filter, length}
use Rattle.pdo_stations.specs.Shown.{nodes_of}
use Rattle.project_parts.specs.Made.{flagged}
use Rattle.project_parts.proofs.node_devices.references.Given as goal

abbrev pub invariant-loop-rest : goal.invariant-loop-rest
invariant-loop-rest l =
    nodes_of l.nodes.items ++ filter (flagged l.named) l.rest ≡ filter (flagged l.named) l.items

abbrev pub decreases-loop-rest : goal.decreases-loop-rest
decreases-loop-rest l = length l.rest
