use Rattle.std.proofs.Common.{ap, sym, ◌∙◌}
use Rattle.std.specs.FinMap as map
use Rattle.project_messages.proofs.NameLemmas.{values_counted}
use Rattle.project_messages.proofs.messages.Messages.len.Goals as goal

pub returns : goal.returns
returns c = c.len.ensures.len ∙ sym (values_counted c.self.inside.linked.entries c.len.ensures.ordered)
    ∙ ap map.len c.self.view_is
