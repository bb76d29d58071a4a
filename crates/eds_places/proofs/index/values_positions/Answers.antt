use Rattle.std.proofs.Common.{sym, ◌∙◌, ap}
use Rattle.eds_entries.specs.Names.{values_named}
use Rattle.eds_places.specs.declared.index.Listed.{Listed}
use Rattle.eds_places.proofs.ListedLemmas.{none_listed, more_unlisted, more_listed}
use Rattle.eds_places.proofs.index.values_positions.Goals as goal

pub loop-position-init : goal.loop-position-init
loop-position-init c = none_listed _ _ c.new-table.ensures.empty

pub loop-position-preserved : goal.loop-position-preserved
loop-position-preserved c =
    let listed : Listed = record { position = c.loop-position.position; pairs = c.in_ok-pairs.pairs } in
    more_listed _ _ listed c.in-Some.index c.args.sections.now c.index-sections-position.result
    c.loop-position-test.true c.index-sections-position.is
    (ap values_named (sym c.name.ensures) ∙ sym c.in-Some.ensures)
    (rw c.pairs.ensures at c.in_ok-pairs.ensures) c.in_ok-note_values.ensures c.loop-position.invariant

pub loop-position-preserved-in_default : goal.loop-position-preserved-in_default
loop-position-preserved-in_default c =
    more_unlisted _ _ _ _ c.loop-position-test.true c.index-sections-position.is (ap values_named (sym c.name.ensures)
    ∙ sym c.in_default.ensures) c.loop-position.invariant
