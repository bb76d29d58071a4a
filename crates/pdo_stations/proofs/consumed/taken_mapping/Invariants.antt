use Rattle.std.proofs.Common.{◌≡◌, take}
use Rattle.std.specs.List.{filter_map}
use Rattle.pdo_stations.specs.Carried.{taken_by}
use Rattle.pdo_stations.specs.Stations.{devices_in}
use Rattle.pdo_stations.proofs.consumed.taken_mapping.Given as goal

-- the mapping so far
abbrev pub invariant-loop-source : goal.invariant-loop-source
invariant-loop-source l = l.mapping.items ≡ filter_map (taken_by (devices_in l.stations) l.sinks l.node)
    (take l.source-index l.carried)
