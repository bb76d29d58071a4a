use Rattle.std.proofs.Common.{ap, subst, sym, ◌∙◌}
use Rattle.project_messages.specs.declared.linked.Linked.{Linked}
use Rattle.project_messages.specs.Messages.{without_receive, AreMessages}
use Rattle.project_messages.proofs.LimitLemmas.{receive_left}
use Rattle.project_messages.proofs.MessageLemmas.{changed_within, message_is, messages_stay, none_changed}
use Rattle.project_messages.proofs.messages.Messages.remove_receive.Goals as goal

pub invariant_of-self : goal.invariant_of-self
invariant_of-self c =
    subst AreMessages (c.self.view_is
    ∙ sym (messages_stay c.self.inside.linked c.args.self.now c.args.name.now c.self.view_is
    c.get_mut.follows.lender-at-none c.get_mut.follows.holds-at-none))
    c.self.invariant

pub returns-in_default : goal.returns-in_default
returns-in_default c =
    let tree = c.self.inside.linked in
    let messages = c.args.self.now in
    messages_stay tree messages c.args.name.now c.self.view_is c.get_mut.follows.lender-at-none
    c.get_mut.follows.holds-at-none
    ∙ none_changed tree messages c.args.name.now c.self.view_is (without_receive c.args.node)
    c.in_default.ensures.value

pub returns : goal.returns
returns c =
    let old = c.in-Some.linked.now in
    let new : Linked = record old { receives = c.remove.new.self } in
    message_is c.self.inside.linked c.args.self.now c.args.name.now c.self.view_is (c.get_mut.follows.lender new) old
    c.in-Some.ensures.value new (c.get_mut.follows.holds new)
    (without_receive c.args.node) (ap (λ receives. record old { receives = receives }) c.remove.ensures)

pub invariant_of-self-2 : goal.invariant_of-self-2
invariant_of-self-2 c =
    changed_within (without_receive c.args.node) _ c.args.self.now c.args.name.now (returns c)
    (λ l is. receive_left l c.args.node is) (subst AreMessages c.self.view_is c.self.invariant)
