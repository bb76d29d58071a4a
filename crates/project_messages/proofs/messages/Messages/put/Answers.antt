use Rattle.std.proofs.Common.{ap, subst, sym, refl, ◌∙◌, [], ℕ, List}
use Rattle.std.specs.FinMap as map
use Rattle.std.proofs.lemmas.Result.{err_from_is_err_and}
use Rattle.project_messages.specs.declared.linked.Linked.{Linked}
use Rattle.project_messages.specs.declared.receive.Receive.{Receive}
use Rattle.project_messages.specs.Messages.{with_message, AreMessages}
use Rattle.project_messages.proofs.MessageLemmas.{message_added, message_missing, message_sent, messages_stay, sent_within}
use Rattle.project_messages.proofs.messages.Messages.put.Goals as goal

pub returns-in-Some-clause-ok : goal.returns-in-Some-clause-ok
returns-in-Some-clause-ok c =
    let old = c.in-Some.linked.now in
    let new : Linked = record old { message = c.args.message } in
    message_sent c.self.inside.linked c.args.self.now c.as_slice.result.now c.self.view_is
    (c.get_mut.follows.lender new) old c.in-Some.ensures.value new (c.get_mut.follows.holds new) c.args.message refl
    ∙ ap (λ name. with_message c.args.self.now name c.args.message) c.as_slice.ensures

pub invariant_of-self : goal.invariant_of-self
invariant_of-self c = sent_within _ c.args.self.now c.args.name c.args.message (returns-in-Some-clause-ok c)
    (subst AreMessages c.self.view_is c.self.invariant) c.requires

pub returns-in_err-insert-clause-absent : goal.returns-in_err-insert-clause-absent
returns-in_err-insert-clause-absent c =
    let p = err_from_is_err_and c.from_residual.result c.from_residual.ensures.1 in
    rw p.1
    (ap (map.get c.args.self.now) (sym c.as_slice.ensures)
    ∙ message_missing c.self.inside.linked c.args.self.now c.as_slice.result.now c.self.view_is
    c.in_default.ensures.value)

pub returns-clause-ok : goal.returns-clause-ok
returns-clause-ok c =
    let before = c.get_mut.follows.lender-at-none in
    let messages = c.args.self.now in
    let key = c.into_vec.result in
    let same = c.into_vec.ensures in
    let new : Linked = record {
      message = c.args.message;
      start = 0;
      sources = c.new.result;
      sinks = c.new-2.result;
      receives = c.new-3.result;
    } in
    let bare : List (ℕ × (ℕ × ℕ)) → List ((ℕ × ℕ) × (ℕ × ℕ)) → List (ℕ × Receive)
    → Linked = λ sources sinks receives. record {
      message = c.args.message;
      start = 0;
      sources = sources;
      sinks = sinks;
      receives = receives;
    } in
    let none = message_missing c.self.inside.linked messages c.as_slice.result.now c.self.view_is
    c.in_default.ensures.value in
    message_added before c.insert.new.self messages key new c.args.message
    (messages_stay c.self.inside.linked messages c.args.name c.self.view_is before c.get_mut.follows.holds-at-none)
    (ap (map.get messages) (same ∙ sym c.as_slice.ensures) ∙ none)
    (ap (λ sources. bare sources c.new-2.result c.new-3.result) c.new.ensures
    ∙ ap (λ sinks. bare [] sinks c.new-3.result) c.new-2.ensures ∙ ap (bare [] []) c.new-3.ensures)
    c.in_ok-insert.ensures.updates
    ∙ ap (λ name. with_message messages name c.args.message) same

pub invariant_of-self-2 : goal.invariant_of-self-2
invariant_of-self-2 c = sent_within _ c.args.self.now c.args.name c.args.message (returns-clause-ok c)
    (subst AreMessages c.self.view_is c.self.invariant) c.requires
