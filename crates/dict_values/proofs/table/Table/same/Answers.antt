use Rattle.std.proofs.Common.{ap, sym, ◌∙◌}
use Rattle.std.specs.FinMap.{entries, from_entries}
use Rattle.dict_values.proofs.PlaceLemmas.{entries_made}
use Rattle.dict_values.proofs.table.Table.same.Goals as goal

pub returns : goal.returns
returns c =
    let es = c.self.inside.held.entries in
    let fs = c.other.inside.held.entries in (
      (λ t. sym c.self.view_is ∙ ap from_entries (c.same_entries.ensures.same.0 t) ∙ c.other.view_is),
      (λ e. c.same_entries.ensures.same.1
          (sym (entries_made es c.same_entries.ensures.ordered)
          ∙ ap entries (c.self.view_is ∙ e ∙ sym c.other.view_is)
          ∙ entries_made fs c.same_entries.ensures.others_ordered)),
    )
