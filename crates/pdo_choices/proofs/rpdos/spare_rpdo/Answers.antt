use Rattle.std.proofs.Common.{sym, ◌∙◌}
use Rattle.pdo_choices.proofs.SpareLemmas.{spare_free, none_free}
use Rattle.pdo_choices.proofs.rpdos.spare_rpdo.Goals as goal

pub returns-in-Some : goal.returns-in-Some
returns-in-Some c =
    c.least_spare.ensures
    ∙ spare_free c.args.taken.now.known.stations c.args.taken.now c.args.node c.args.count c.in-Some.station.now
    (sym c.in-Some.ensures)

pub returns-in-None : goal.returns-in-None
returns-in-None c = none_free c.args.taken.now.known.stations c.args.taken.now c.args.node c.args.count (sym c.in-None.ensures)
