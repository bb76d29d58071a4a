use Rattle.std.proofs.Common.{ℕ, ap, ◌∙◌, sym}
use Rattle.eds_places.specs.Table.{standing}
use Rattle.eds_places.proofs.TableLemmas.{nothing_stands, stand_found}
use Rattle.eds_places.proofs.table.find_stand.Goals as goal

pub returns-in-Ok : goal.returns-in-Ok
returns-in-Ok c =
    let place : ℕ × ℕ = (c.args.index, c.args.sub) in
    ap (standing c.args.sections.now) c.stand_at.ensures
    ∙ stand_found c.args.sections.now c.args.places.now c.args.stands.now c.in-Ok.position c.args.index c.args.sub
    c.requires.stands c.in-Ok.ensures.bound (c.in-Ok.ensures.ok place)

pub returns-in-Err : goal.returns-in-Err
returns-in-Err c =
    sym (nothing_stands c.args.sections.now c.args.index c.args.sub c.in-Err.field-0
    (rw c.requires.places at c.in-Err.ensures.position))
