use Rattle.std.proofs.Common.{◌≡◌, ◌≤◌, ℕ, get_or, None, length, drop}
use Rattle.pdo_stations.specs.Shown.{nodes_of}
use Rattle.pdo_stations.proofs.StationLemmas.{made}
use Rattle.pdo_stations.proofs.makes.look_up_makes.Given as goal

-- the devices of the last nodes
abbrev pub invariant-nodes : goal.invariant-nodes
invariant-nodes l = record {
  within : l.count ≤ length l.nodes;
  count : length l.makes.items ≡ 256;
  makes : (node : ℕ) → get_or l.makes.items node None ≡ made node (nodes_of (drop l.count l.nodes));
}

abbrev pub decreases-nodes : goal.decreases-nodes
decreases-nodes l = l.count
