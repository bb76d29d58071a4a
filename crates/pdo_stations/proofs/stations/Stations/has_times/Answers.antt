use Rattle.std.proofs.Common.{sym, ◌∙◌}
use Rattle.cia301.specs.PdoObjects.{tpdo_object}
use Rattle.pdo_stations.proofs.AlikeLemmas.{times_at}
use Rattle.pdo_stations.proofs.stations.Stations.has_times.Goals as goal

pub returns-in-Some : goal.returns-in-Some
returns-in-Some c = c.has_times.ensures
    ∙ times_at c.args.self.now c.args.node (tpdo_object c.args.number) c.args.inhibit c.args.event c.in-Some.station.now
    (sym c.in-Some.ensures)
