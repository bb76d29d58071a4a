use Rattle.std.proofs.Common.{sym, ◌∙◌}
use Rattle.cia301.specs.PdoObjects.{tpdo_object}
use Rattle.pdo_stations.proofs.AlikeLemmas.{start_at}
use Rattle.pdo_stations.proofs.stations.Stations.has_start.Goals as goal

pub returns-in-Some : goal.returns-in-Some
returns-in-Some c = c.has_start.ensures
    ∙ start_at c.args.self.now c.args.node (tpdo_object c.args.number) c.args.start c.in-Some.station.now
    (sym c.in-Some.ensures)
