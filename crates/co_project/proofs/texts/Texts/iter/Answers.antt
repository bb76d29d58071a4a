use Rattle.std.proofs.Common.{ap, sym, ◌∙◌}
use Rattle.std.specs.FinMap as map
use Rattle.project_messages.specs.Messages.{by_name}
use Rattle.project_messages.proofs.NameLemmas.{values_made}
use Rattle.co_project.proofs.texts.Texts.iter.Goals as goal

pub returns : goal.returns
returns c = ap by_name c.iter.ensures.rest ∙ sym (values_made c.self.inside.texts.entries c.iter.ensures.ordered)
    ∙ ap map.entries c.self.view_is
