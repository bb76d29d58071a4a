use Rattle.std.proofs.Common.{ap, ◌∙◌}
use Rattle.eds_places.specs.Table.{standing}
use Rattle.eds_places.proofs.TableLemmas.{stand_there}
use Rattle.eds_places.proofs.table.find_stand_near.Goals as goal

pub returns-in_err-stand : goal.returns-in_err-stand
returns-in_err-stand c =
    rw (c.from_residual-in_err-stand.ensures) (ap (standing c.args.sections.now) c.in_err-stand.ensures
    ∙ stand_there c.args.sections.now c.args.places.now c.args.stands.now c.in_ok-position.position c.args.index
    c.args.sub c.requires.stands c.in_ok-position.ensures.found)

pub returns : goal.returns
returns c =
    ap (standing c.args.sections.now) c.in_ok-stand.ensures
    ∙ stand_there c.args.sections.now c.args.places.now c.args.stands.now c.in_ok-position.position c.args.index
    c.args.sub c.requires.stands c.in_ok-position.ensures.found
