use Rattle.std.proofs.Common.{◌≡◌, ℕ, ◌||◌}
use Rattle.std.specs.BTreeSet.{contains}
use Rattle.std.specs.Ordering.{nat_cmp}
use Rattle.pdo_stations.specs.Stations.{devices_in}
use Rattle.vendor_pdos.specs.Fixed.{is_withheld}
use Rattle.vendor_pdos.proofs.EachLemmas.{some_from}
use Rattle.vendor_pdos.proofs.WithheldLemmas.{at_node}
use Rattle.vendor_pdos.proofs.withheld.withheld_identifiers.Given as goal

-- with those of the nodes that are left they are all
abbrev pub invariant-loop-node : goal.invariant-loop-node
invariant-loop-node l = (id : ℕ) → (contains nat_cmp l.identifiers id
    || some_from (at_node (devices_in l.stations).vendor id) l.node 128) ≡ is_withheld (devices_in l.stations) id
