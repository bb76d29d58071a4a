use Rattle.std.proofs.Common.{List, ◌∙◌, sym, ap}
use Rattle.std.specs.List.{slice_get}
use Rattle.ini_text.specs.Content.{Section}
use Rattle.eds_places.proofs.ListedLemmas.{values_found, no_values_found}
use Rattle.eds_places.proofs.reading.Reading.values_section.Goals as goal

pub returns-in_err-listed : goal.returns-in_err-listed
returns-in_err-listed c =
    rw (c.from_residual.ensures, ← c.self.view_is)
    (sym (no_values_found _ _ c.args.index c.self.invariant.finds_values (sym c.in_err-listed.ensures.value)))

pub returns : goal.returns
returns c =
    let found = values_found _ _ _ c.args.index c.self.invariant.finds_values (sym c.in_ok-listed.ensures.value) in
    rw (← c.self.view_is) (c.section_at.ensures
    ∙ ap (λ (xs : List Section). slice_get xs c.in_ok-listed.listed.now.position) c.sections.ensures ∙ found.there
    ∙ sym found.named)
