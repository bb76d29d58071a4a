use Rattle.std.proofs.Common.{◌≡◌, ◌++◌}
use Rattle.pdo_stations.specs.Carried.{carried_of}
use Rattle.pdo_stations.specs.Stations.{devices_in}
use Rattle.pdo_stations.proofs.carried.carried_sources.Given as goal

-- those so far and those of the rest are all
abbrev pub invariant-sources : goal.invariant-sources
invariant-sources l =
    l.carried.items ++ carried_of (devices_in l.stations) l.sender l.position-iterator
    ≡ carried_of (devices_in l.stations) l.sender l.sources
