use Rattle.std.proofs.Common.{ap, sym, ◌∙◌}
use Rattle.std.specs.FinMap as map
use Rattle.dict_values.proofs.PlaceLemmas.{get_place, one_written}
use Rattle.dict_values.proofs.table.Table.insert.Goals as goal

pub returns-clause-ok : goal.returns-clause-ok
returns-clause-ok c =
    one_written c.self.inside.held.entries c.insert.new.self.entries c.args.place c.args.value
    c.in_ok-before.ensures.updates.0
    ∙ ap (λ m. map.insert m c.args.place c.args.value) c.self.view_is

pub returns-clause-before : goal.returns-clause-before
returns-clause-before c =
    c.in_ok-before.ensures.old ∙ sym (get_place c.self.inside.held.entries c.args.place)
    ∙ ap (λ m. map.get m c.args.place) c.self.view_is
