use Rattle.std.proofs.Common.{ℕ}
use Rattle.eds_places.proofs.TableLemmas.{nothing_stands, place_found}
use Rattle.eds_places.proofs.table.position_of.Goals as goal

pub returns-in-Ok-clause-found : goal.returns-in-Ok-clause-found
returns-in-Ok-clause-found c =
    let place : ℕ × ℕ = (c.args.index, c.args.sub) in
    place_found c.args.places.now c.in-Ok.position c.args.index c.args.sub c.in-Ok.ensures.bound
    (c.in-Ok.ensures.ok place)

pub returns-in-Err-clause-none : goal.returns-in-Err-clause-none
returns-in-Err-clause-none c =
    nothing_stands c.args.sections.now c.args.index c.args.sub c.in-Err.field-0
    (rw c.requires at c.in-Err.ensures.position)
