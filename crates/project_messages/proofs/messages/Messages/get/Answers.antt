use Rattle.std.proofs.Common.{ap, sym, ◌∙◌}
use Rattle.std.specs.FinMap as map
use Rattle.project_messages.proofs.LimitLemmas.{limits_behind}
use Rattle.project_messages.proofs.NameLemmas.{made, value_found}
use Rattle.project_messages.proofs.messages.Messages.get.Goals as goal

pub returns-clause-message : goal.returns-clause-message
returns-clause-message c =
    c.get.ensures.value ∙ sym (value_found c.self.inside.linked.entries c.args.name.now)
    ∙ ap (λ messages. map.get messages c.args.name.now) c.self.view_is

pub returns-clause-limits : goal.returns-clause-limits
returns-clause-limits c =
    let es = c.self.inside.linked.entries in
    limits_behind (made es) c.args.name.now c.get.result c.self.invariant (c.get.ensures.value
    ∙ sym (value_found es c.args.name.now))
