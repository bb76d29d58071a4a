use Rattle.std.proofs.Common.{◌≡◌, ◌||◌}
use Rattle.std.specs.List.{list_any}
use Rattle.std.specs.Option.{option_copied}
use Rattle.pdo_stations.specs.Carried.{carried_at}
use Rattle.pdo_plan.specs.Carried.{is_untakable, mismatches}
use Rattle.pdo_stations.specs.Stations.{devices_in}
use Rattle.pdo_plan.proofs.entry_faults.all_sink_faults.Given as goal

-- those so far and those of the rest are all, and the source is that at the position
abbrev pub invariant-sinks : goal.invariant-sinks
invariant-sinks l = record {
  source : option_copied l.source ≡ carried_at l.carried l.position;
  unmappable : (l.found.unmappable || list_any (is_untakable (devices_in l.stations) l.sender) l.seat-iterator)
      ≡ list_any (is_untakable (devices_in l.stations) l.sender) l.sinks;
  mismatched : (l.found.mismatched || list_any (mismatches (devices_in l.stations) l.carried) l.seat-iterator)
      ≡ list_any (mismatches (devices_in l.stations) l.carried) l.sinks;
}
