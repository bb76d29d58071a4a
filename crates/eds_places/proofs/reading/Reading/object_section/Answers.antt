use Rattle.std.proofs.Common.{ℕ, List, ◌∙◌, ap}
use Rattle.std.specs.List.{slice_get}
use Rattle.std.specs.Option.{option_and_then, option_copied}
use Rattle.std.specs.Ordering.{nat_cmp}
use Rattle.ini_text.specs.Content.{Section}
use Rattle.eds_entries.specs.Names.{index_named}
use Rattle.eds_places.specs.Origins.{is_index, object_section}
use Rattle.eds_places.proofs.IndexLemmas.{finds}
use Rattle.eds_places.proofs.reading.Reading.object_section.Goals as goal

pub returns : goal.returns
unfolding object_section
returns c =
    let key : ℕ = c.args.index in
    rw (← c.self.view_is) (
    c.section_at.ensures
    ∙ ap (λ (xs : List Section). option_and_then (slice_get xs) (option_copied c.get.result)) c.sections.ensures
    ∙ ap (option_and_then (slice_get c.self.inside.ini.sections)) c.get.ensures.value
    ∙ finds nat_cmp (λ key s. is_index key (index_named s.name)) _ _ c.self.invariant.finds_objects key
    )
