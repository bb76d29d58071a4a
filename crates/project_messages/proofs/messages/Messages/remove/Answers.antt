use Rattle.std.proofs.Common.{ap, subst, sym, ◌∙◌}
use Rattle.std.specs.FinMap as map
use Rattle.project_messages.specs.Messages.{AreMessages}
use Rattle.project_messages.proofs.LimitLemmas.{messages_left}
use Rattle.project_messages.proofs.NameLemmas.{value_removed}
use Rattle.project_messages.proofs.messages.Messages.remove.Goals as goal

pub returns : goal.returns
returns c =
    value_removed c.self.inside.linked.entries c.remove.new.self.entries c.args.name.now c.remove.ensures.updates.0
    ∙ ap (λ messages. map.remove messages c.args.name.now) c.self.view_is

pub invariant_of-self : goal.invariant_of-self
invariant_of-self c = subst AreMessages (sym (returns c))
    (messages_left c.args.self.now c.args.name.now (subst AreMessages c.self.view_is c.self.invariant))
