use Rattle.std.proofs.Common.{sym, ◌∙◌}
use Rattle.cia301.specs.PdoObjects.{tpdo_object}
use Rattle.pdo_stations.proofs.AlikeLemmas.{pdo_at, no_pdo_at}
use Rattle.pdo_stations.proofs.stations.Stations.has_tpdo.Goals as goal

pub returns-in-Some : goal.returns-in-Some
returns-in-Some c = c.has_tpdo.ensures
    ∙ pdo_at c.args.self.now c.args.node (tpdo_object c.args.number) c.args.count c.in-Some.station.now
    (sym c.in-Some.ensures)

pub returns-in-None : goal.returns-in-None
returns-in-None c =
    no_pdo_at c.args.self.now c.args.node (tpdo_object c.args.number) c.args.count (sym c.in-None.ensures)
