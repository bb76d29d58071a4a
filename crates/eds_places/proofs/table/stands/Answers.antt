use Rattle.std.proofs.Common.{ℕ, List, get_or, refl}
use Rattle.eds_places.proofs.TableLemmas.{no_stands, one_more_stands}
use Rattle.eds_places.proofs.table.stands.Goals as goal

pub loop-place-init : goal.loop-place-init
loop-place-init c = no_stands c.args.sections.now _ c.in_ok-stands.ensures.items

pub loop-place-preserved : goal.loop-place-preserved
loop-place-preserved c =
    let places : List (ℕ × ℕ) = c.args.places.now in
    let first : ℕ × ℕ = (0, 0) in
    let place : ℕ × ℕ = get_or places c.loop-place.place-index first in
    one_more_stands c.args.sections.now places c.loop-place.place-index _ _ _ first place c.loop-place-test.true refl
    c.in_ok-push.ensures.items c.stand_of.ensures c.loop-place.invariant
