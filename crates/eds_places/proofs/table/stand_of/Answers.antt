use Rattle.std.proofs.Common.{◌∙◌}
use Rattle.eds_places.proofs.TableLemmas.{other_stands, own_stands}
use Rattle.eds_places.proofs.table.stand_of.Goals as goal

pub returns-in-Some : goal.returns-in-Some
returns-in-Some c = own_stands c.args.sections.now c.args.index c.args.sub c.in-Some.position c.in-Some.ensures

pub returns-in-None : goal.returns-in-None
returns-in-None c = c.stand_in_object.ensures
    ∙ other_stands c.args.sections.now c.args.index c.args.sub c.in-None.ensures
