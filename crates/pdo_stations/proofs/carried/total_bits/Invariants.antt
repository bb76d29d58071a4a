use Rattle.std.proofs.Common.{◌≡◌, ◌*◌, ◌≤◌, take}
use Rattle.pdo_stations.specs.Carried.{total_bits}
use Rattle.pdo_stations.proofs.carried.total_bits.Given as goal

-- the bits so far, each at most 255
abbrev pub invariant-loop-source : goal.invariant-loop-source
invariant-loop-source l = record {
  total : l.total ≡ total_bits (take l.source-index l.carried);
  bound : l.total ≤ 255 * l.source-index;
}
