use Rattle.std.proofs.Common.{◌≡◌, Some, sym, ◌∙◌}
use Rattle.std.proofs.lemmas.Bool.{false≢true}
use Rattle.trace_spans.proofs.KnownLemmas.{differs_from, given_known}
use Rattle.trace_spans.proofs.reads_now.ReadsNow.meet.Goals as goal

pub returns-then-same-clause-known : goal.returns-then-same-clause-known
returns-then-same-clause-known c image contents is h m =
    let same = c.same-same.ensures.0 c.if-same.true ∙ c.content-recorded.ensures in
    c.in_ok-take_over.ensures image contents c.args.given.now (is ∙ same) h m

pub returns-clause-known : goal.returns-clause-known
returns-clause-known c image contents is h m =
    let given = c.args.given.now in
    let read = c.args.read.now in
    let differs : c.args.content ≡ read.content → ⊥ = λ e. false≢true (sym c.if-same.false ∙ c.same-same.ensures.1 (e ∙ sym c.content-recorded.ensures)) in
    rw c.in_ok-now.ensures.ok
    (given_known image contents given c.args.self.now c.learn.new.known.entries read.name h c.args.content
    (Some read.number) is
    (rw (c.part-2.ensures, c.new-known.ensures, c.number.ensures, c.in_ok-now.ensures.is, c.new.ensures, c.part.ensures, c.self.view_is)
    at c.in_ok-learn.ensures)
    (differs_from image contents given c.args.content read m differs)).0
