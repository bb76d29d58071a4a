use Rattle.std.proofs.Common.{refl, subst, sym, ◌∙◌}
use Rattle.project_messages.specs.declared.linked.Linked.{Linked}
use Rattle.project_messages.specs.Messages.{with_start, AreMessages}
use Rattle.project_messages.proofs.LimitLemmas.{start_put}
use Rattle.project_messages.proofs.MessageLemmas.{changed_within, message_is, messages_stay, none_changed}
use Rattle.project_messages.proofs.messages.Messages.set_start.Goals as goal

pub invariant_of-self : goal.invariant_of-self
invariant_of-self c =
    subst AreMessages (c.self.view_is
    ∙ sym (messages_stay c.self.inside.linked c.args.self.now c.args.name.now c.self.view_is
    c.get_mut.follows.lender-at-none c.get_mut.follows.holds-at-none))
    c.self.invariant

pub returns-in_default : goal.returns-in_default
returns-in_default c =
    let tree = c.self.inside.linked in
    let messages = c.args.self.now in
    messages_stay tree messages c.args.name.now c.self.view_is c.get_mut.follows.lender-at-none
    c.get_mut.follows.holds-at-none
    ∙ none_changed tree messages c.args.name.now c.self.view_is (with_start c.args.start) c.in_default.ensures.value

pub returns : goal.returns
returns c =
    let old = c.in-Some.linked.now in
    let new : Linked = record old { start = c.args.start } in
    message_is c.self.inside.linked c.args.self.now c.args.name.now c.self.view_is (c.get_mut.follows.lender new) old
    c.in-Some.ensures.value new (c.get_mut.follows.holds new) (with_start c.args.start) refl

pub invariant_of-self-2 : goal.invariant_of-self-2
invariant_of-self-2 c =
    changed_within (with_start c.args.start) _ c.args.self.now c.args.name.now (returns c)
    (λ l is. start_put l c.args.start is c.requires) (subst AreMessages c.self.view_is c.self.invariant)
