use Rattle.std.proofs.Common.{ap, is_some, subst, sym, ◌∙◌}
use Rattle.std.proofs.lemmas.Result.{err_from_is_err_and}
use Rattle.project_messages.specs.declared.linked.Linked.{Linked}
use Rattle.project_messages.specs.Messages.{with_receive, AreMessages}
use Rattle.project_messages.proofs.LimitLemmas.{receive_put}
use Rattle.project_messages.proofs.MessageLemmas.{changed_within, message_found, message_is, message_stays, messages_stay}
use Rattle.project_messages.proofs.MessageLemmas.{message_missing, no_receive, none_changed}
use Rattle.project_messages.proofs.messages.Messages.link_receive.Goals as goal

pub invariant_of-self : goal.invariant_of-self
invariant_of-self c =
    subst AreMessages (c.self.view_is
    ∙ sym (messages_stay c.self.inside.linked c.args.self.now c.args.name.now c.self.view_is
    c.get_mut.follows.lender-at-none c.get_mut.follows.holds-at-none))
    c.self.invariant

pub returns-in_default-clause-ok : goal.returns-in_default-clause-ok
returns-in_default-clause-ok c =
    let tree = c.self.inside.linked in
    let messages = c.args.self.now in
    messages_stay tree messages c.args.name.now c.self.view_is c.get_mut.follows.lender-at-none
    c.get_mut.follows.holds-at-none
    ∙ none_changed tree messages c.args.name.now c.self.view_is (with_receive c.args.node c.args.receive)
    c.in_default.ensures.value

pub returns-in_err-put-clause-err : goal.returns-in_err-put-clause-err
returns-in_err-put-clause-err c =
    let old = c.in-Some.linked.now in
    let new : Linked = record old { receives = c.put.new.self } in
    let p = err_from_is_err_and c.from_residual.result c.from_residual.ensures.1 in
    rw p.1
    (message_stays c.self.inside.linked c.args.self.now c.args.name.now c.self.view_is (c.get_mut.follows.lender new)
    old c.in-Some.ensures.value new (c.get_mut.follows.holds new)
    (ap (λ receives. record old { receives = receives }) c.in_err-put.ensures.err))

pub invariant_of-self-in_err-put : goal.invariant_of-self-in_err-put
invariant_of-self-in_err-put c =
    let old = c.in-Some.linked.now in
    let new : Linked = record old { receives = c.put.new.self } in
    subst AreMessages
    (c.self.view_is
    ∙ sym (message_stays c.self.inside.linked c.args.self.now c.args.name.now c.self.view_is
    (c.get_mut.follows.lender new) old c.in-Some.ensures.value new (c.get_mut.follows.holds new)
    (ap (λ receives. record old { receives = receives }) c.in_err-put.ensures.err)))
    c.self.invariant

pub returns-in_err-put-clause-absent : goal.returns-in_err-put-clause-absent
returns-in_err-put-clause-absent c =
    let old = c.in-Some.linked.now in
    let p = err_from_is_err_and c.from_residual.result c.from_residual.ensures.1 in
    rw p.1
    (no_receive c.args.self.now c.args.name.now old
    (message_found c.self.inside.linked c.args.self.now c.args.name.now c.self.view_is old c.in-Some.ensures.value)
    c.args.node
    c.in_err-put.ensures.absent)

pub returns-clause-ok : goal.returns-clause-ok
returns-clause-ok c =
    let old = c.in-Some.linked.now in
    let new : Linked = record old { receives = c.put.new.self } in
    message_is c.self.inside.linked c.args.self.now c.args.name.now c.self.view_is (c.get_mut.follows.lender new) old
    c.in-Some.ensures.value new (c.get_mut.follows.holds new)
    (with_receive c.args.node c.args.receive)
    (ap (λ receives. record old { receives = receives }) c.in_ok-put.ensures.ok)

pub invariant_of-self-2 : goal.invariant_of-self-2
invariant_of-self-2 c =
    changed_within (with_receive c.args.node c.args.receive) _ c.args.self.now c.args.name.now
    (returns-clause-ok c)
    (λ l is. receive_put l c.args.node c.args.receive is c.requires)
    (subst AreMessages c.self.view_is c.self.invariant)

pub returns-in_default-clause-known : goal.returns-in_default-clause-known
returns-in_default-clause-known c =
    sym (ap is_some (message_missing c.self.inside.linked c.args.self.now c.args.name.now c.self.view_is
    c.in_default.ensures.value))

pub returns-in_err-put-clause-there : goal.returns-in_err-put-clause-there
returns-in_err-put-clause-there c =
    let p = err_from_is_err_and c.from_residual.result c.from_residual.ensures.1 in
    rw p.1
    (ap is_some (message_found c.self.inside.linked c.args.self.now c.args.name.now c.self.view_is c.in-Some.linked.now
    c.in-Some.ensures.value))

pub returns-clause-known : goal.returns-clause-known
returns-clause-known c =
    sym (ap is_some (message_found c.self.inside.linked c.args.self.now c.args.name.now c.self.view_is
    c.in-Some.linked.now c.in-Some.ensures.value))

pub returns-in_default-clause-unknown : goal.returns-in_default-clause-unknown
returns-in_default-clause-unknown c is_unknown =
    messages_stay c.self.inside.linked c.args.self.now c.args.name.now c.self.view_is
    c.get_mut.follows.lender-at-none c.get_mut.follows.holds-at-none
