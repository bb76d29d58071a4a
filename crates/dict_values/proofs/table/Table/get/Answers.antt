use Rattle.std.proofs.Common.{ap, sym, Some, ◌∙◌}
use Rattle.std.specs.FinMap as map
use Rattle.dict_values.proofs.PlaceLemmas.{get_place}
use Rattle.dict_values.proofs.table.Table.get.Goals as goal

pub returns-in-Some-clause-value : goal.returns-in-Some-clause-value
returns-in-Some-clause-value c =
    ap Some c.as_slice.ensures.bytes ∙ c.in-Some.ensures.value
    ∙ sym (get_place c.self.inside.held.entries c.args.place) ∙ ap (λ m. map.get m c.args.place) c.self.view_is

pub returns-in-None-clause-value : goal.returns-in-None-clause-value
returns-in-None-clause-value c =
    c.in-None.ensures.value ∙ sym (get_place c.self.inside.held.entries c.args.place)
    ∙ ap (λ m. map.get m c.args.place) c.self.view_is
