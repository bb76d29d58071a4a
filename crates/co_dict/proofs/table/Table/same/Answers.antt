use Rattle.std.proofs.Common.{ap, sym, ◌∙◌}
use Rattle.std.specs.FinMap.{entries, from_entries}
use Rattle.co_dict.proofs.PlaceLemmas.{entries_made}
use Rattle.co_dict.proofs.table.Table.same.Goals as goal

pub returns : goal.returns
returns c =
    let es = c.self.inside.tree.entries in
    let fs = c.other.inside.tree.entries in (
      (λ t. sym c.self.view_is ∙ ap from_entries (c.same_descriptions.ensures.same.0 t) ∙ c.other.view_is),
      (λ e. c.same_descriptions.ensures.same.1
          (sym (entries_made es c.same_descriptions.ensures.ordered)
          ∙ ap entries (c.self.view_is ∙ e ∙ sym c.other.view_is)
          ∙ entries_made fs c.same_descriptions.ensures.others_ordered)),
    )
