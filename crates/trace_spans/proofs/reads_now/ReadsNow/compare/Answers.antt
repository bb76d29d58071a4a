use Rattle.std.proofs.Common.{◌≡◌, Some, sym, ◌∙◌}
use Rattle.trace_spans.specs.Reads.{known_at}
use Rattle.trace_spans.proofs.KnownLemmas.{known_put}
use Rattle.trace_spans.proofs.reads_now.ReadsNow.compare.Goals as goal

pub by_number-requires : goal.by_number-requires
by_number-requires c =
    let name = c.args.read.now.name in
    let at : known_at c.args.self.now name ≡ Some c.in-Some.known.now =
    rw (← c.self.view_is, ← c.part.ensures) (sym c.in-Some.ensures.value) in
    let r = c.requires in
    (r.0, (r.1.0, (r.1.1.0, (name, (r.1.1.1.0 name c.in-Some.known.now at, r.1.1.1.1)))))

pub returns-in-Some-by_number-clause-answer : goal.returns-in-Some-by_number-clause-answer
returns-in-Some-by_number-clause-answer c image contents given h =
    let name = c.args.read.now.name in
    let at : known_at c.args.self.now name ≡ Some c.in-Some.known.now =
    rw (← c.self.view_is, ← c.part.ensures) (sym c.in-Some.ensures.value) in
    let k = h name c.in-Some.known.now at in
    let e = c.in-Some-by_number.ensures in
    ((λ t. k.is ∙ e.0 t), (λ x. e.1 (sym k.is ∙ x)))

pub returns-clause-answer : goal.returns-clause-answer
returns-clause-answer c image contents given h =
    let name = c.args.read.now.name in
    let at : known_at c.args.self.now name ≡ Some c.in-Some.known.now =
    rw (← c.self.view_is, ← c.part.ensures) (sym c.in-Some.ensures.value) in
    let k = h name c.in-Some.known.now at in
    let e = c.in_ok-same-in-Some.ensures.answer in
    ((λ t. k.is ∙ e.0 t), (λ x. e.1 (sym k.is ∙ x)))

pub returns-clause-known : goal.returns-clause-known
returns-clause-known c image contents given h m =
    let name = c.args.read.now.name in
    let at : known_at c.args.self.now name ≡ Some c.in-Some.known.now =
    rw (← c.self.view_is, ← c.part.ensures) (sym c.in-Some.ensures.value) in
    let k = h name c.in-Some.known.now at in
    known_put image contents given name c.in_ok-same-in-Some.learnt c.args.self.now c.learn.new.known.entries
    (rw (c.part-2.ensures, c.self.view_is) at c.in_ok-learn.ensures)
    (c.in_ok-same-in-Some.ensures.known image contents given k m) h
