use Rattle.std.proofs.Common.{◌≡◌, ◌≤◌, ℕ, length, drop}
use Rattle.pdo_stations.specs.Shown.{nodes_of}
use Rattle.pdo_stations.specs.Seats.{shape_at, seats_by_number}
use Rattle.pdo_stations.proofs.StationLemmas.{shaped}
use Rattle.pdo_stations.proofs.seats.look_up.Given as goal

-- the stations of the last nodes
abbrev pub invariant-nodes : goal.invariant-nodes
invariant-nodes l = record {
  within : l.count ≤ length l.nodes;
  count : length l.seats.items ≡ 256;
  stations : (node : ℕ) → shape_at (seats_by_number 0 l.seats.items) node ≡ shaped node (nodes_of (drop l.count l.nodes));
}

abbrev pub decreases-nodes : goal.decreases-nodes
decreases-nodes l = l.count
