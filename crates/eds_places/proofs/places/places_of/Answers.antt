use Rattle.std.proofs.Common.{◌+◌, sym, ◌∙◌}
use Rattle.std.proofs.lemmas.Result.{err_from_is_err_and}
use Rattle.eds_places.proofs.AddingLemmas.{still_refused, sections_longer, sections_more, not_refused, none_refused}
use Rattle.eds_places.proofs.AddingLemmas.{all_sections}
use Rattle.eds_places.proofs.places.places_of.Goals as goal

pub returns-in_err-add_given : goal.returns-in_err-add_given
returns-in_err-add_given c =
    let p = err_from_is_err_and c.from_residual.result c.from_residual.ensures.1 in
    let more = sections_more c.loop-section.places.keys c.args.sections.now c.loop-section.section-index
    c.section-item.result c.loop-section-test.true c.section-item.is c.loop-section.invariant.0 in
    let longer = sections_longer c.args.sections.now (c.loop-section.section-index + 1) in
    rw (p.1, p.2) (still_refused _ _ _ (rw more at longer) c.in_err-add_given.ensures)

pub loop-section-preserved : goal.loop-section-preserved
loop-section-preserved c =
    let got = not_refused _ _ c.in_ok-add_given.ensures in
    let more = sections_more c.loop-section.places.keys c.args.sections.now c.loop-section.section-index
    c.section-item.result c.loop-section-test.true c.section-item.is c.loop-section.invariant.0 in
    (got.0 ∙ sym more, got.1)

pub returns : goal.returns
returns c =
    let all = all_sections c.loop-section.places.keys c.args.sections.now c.loop-section.section-index
    c.loop-section-test.false c.loop-section.invariant.0 in
    none_refused _ _ (rw all at c.loop-section.invariant.1) (c.in_ok-places.ensures ∙ all)
