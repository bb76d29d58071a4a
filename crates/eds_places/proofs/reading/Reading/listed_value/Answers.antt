use Rattle.std.proofs.Common.{◌≡◌, List, ◌∙◌, sym, ap, Some, None}
use Rattle.std.specs.List.{slice_get}
use Rattle.std.specs.Option.{option_map}
use Rattle.ini_text.specs.Content.{Section, Pair}
use Rattle.eds_places.proofs.ListedLemmas.{values_found, no_values_found, nothing_listed, listed_in, none_is_not_some}
use Rattle.eds_places.proofs.ListedLemmas.{some_is_one}
use Rattle.eds_places.proofs.reading.Reading.listed_value.Goals as goal

pub returns-in_err-listed : goal.returns-in_err-listed
returns-in_err-listed c =
    rw (c.from_residual.ensures, ← c.self.view_is)
    (sym (nothing_listed _ c.args.index c.args.sub
    (no_values_found _ _ c.args.index c.self.invariant.finds_values (sym c.in_err-listed.ensures.value))))

pub returns-in_err-section : goal.returns-in_err-section
returns-in_err-section c =
    let found = values_found _ _ _ c.args.index c.self.invariant.finds_values (sym c.in_ok-listed.ensures.value) in
    let e : None ≡ Some found.section = c.in_err-section.ensures
    ∙ ap (λ (xs : List Section). slice_get xs c.in_ok-listed.listed.now.position) c.sections.ensures ∙ found.there
    in
    absurd (none_is_not_some e)

pub listed_pair-requires : goal.listed_pair-requires
listed_pair-requires c =
    let found = values_found _ _ _ c.args.index c.self.invariant.finds_values (sym c.in_ok-listed.ensures.value) in
    let same = some_is_one (c.in_ok-section.ensures
    ∙ ap (λ (xs : List Section). slice_get xs c.in_ok-listed.listed.now.position) c.sections.ensures ∙ found.there)
    in
    rw same found.finds

pub returns-in_err-pair : goal.returns-in_err-pair
returns-in_err-pair c =
    let found = values_found _ _ _ c.args.index c.self.invariant.finds_values (sym c.in_ok-listed.ensures.value) in
    let same = some_is_one (c.in_ok-section.ensures
    ∙ ap (λ (xs : List Section). slice_get xs c.in_ok-listed.listed.now.position) c.sections.ensures ∙ found.there)
    in
    rw (c.from_residual-in_err-pair.ensures, ← c.self.view_is)
    (ap (option_map (λ (p : Pair). p.value)) c.in_err-pair.ensures
    ∙ sym (listed_in _ c.args.index c.args.sub c.in_ok-section.section.now (found.named ∙ ap Some (sym same))))

pub returns : goal.returns
returns c =
    let found = values_found _ _ _ c.args.index c.self.invariant.finds_values (sym c.in_ok-listed.ensures.value) in
    let same = some_is_one (c.in_ok-section.ensures
    ∙ ap (λ (xs : List Section). slice_get xs c.in_ok-listed.listed.now.position) c.sections.ensures ∙ found.there)
    in
    rw (← c.self.view_is) (ap Some c.value.ensures ∙ ap (option_map (λ (p : Pair). p.value)) c.in_ok-pair.ensures
    ∙ sym (listed_in _ c.args.index c.args.sub c.in_ok-section.section.now (found.named ∙ ap Some (sym same))))
