use Rattle.std.proofs.Common.{ap, ◌∙◌}
use Rattle.std.specs.FinMap as map
use Rattle.project_messages.proofs.NameLemmas.{value_removed}
use Rattle.co_project.proofs.texts.Texts.remove.Goals as goal

pub returns : goal.returns
returns c =
    value_removed c.self.inside.texts.entries c.remove.new.self.entries c.args.name.now c.remove.ensures.updates.0
    ∙ ap (λ texts. map.remove texts c.args.name.now) c.self.view_is
