use Rattle.std.proofs.Common.{◌≡◌, Some, sym, ◌∙◌}
use Rattle.trace_spans.specs.Reads.{known_at, plain_read}
use Rattle.trace_spans.proofs.KnownLemmas.{one_still_marked}
use Rattle.trace_spans.proofs.reads_now.ReadsNow.mark.Goals as goal

pub returns-in_ok-copy-in-Some-clause-is : goal.returns-in_ok-copy-in-Some-clause-is
returns-in_ok-copy-in-Some-clause-is c image contents h is =
    let at : known_at c.args.self.now c.args.read.0 ≡ Some c.in-Some.known.now =
    rw (← c.self.view_is, ← c.part.ensures) (sym c.in-Some.ensures.value) in
    let k = h c.args.read.0 c.in-Some.known.now at in
    let content = sym k.is ∙ is in
    let same : plain_read c.in-Some.known.now.read ≡ c.args.read = λ i. (k.name i, content i) in
    rw (c.in_ok-copy-in-Some.ensures, c.read.ensures) same

pub returns-in_ok-copy-in-Some-clause-known : goal.returns-in_ok-copy-in-Some-clause-known
returns-in_ok-copy-in-Some-clause-known c image contents h is =
    let at : known_at c.args.self.now c.args.read.0 ≡ Some c.in-Some.known.now =
    rw (← c.self.view_is, ← c.part.ensures) (sym c.in-Some.ensures.value) in
    let k = h c.args.read.0 c.in-Some.known.now at in
    rw (c.in_ok-copy-in-Some.ensures, c.read.ensures)
    (one_still_marked image contents c.args.given.now c.args.self.now c.in-Some.known.now.read h k.marked)
