use Rattle.std.proofs.Common.{◌≡◌, take}
use Rattle.pdo_stations.specs.Carried.{sent_by}
use Rattle.pdo_stations.proofs.carried.sent_mapping.Given as goal

-- the mapping so far
abbrev pub invariant-loop-source : goal.invariant-loop-source
invariant-loop-source l = l.mapping.items ≡ sent_by (take l.source-index l.carried)
