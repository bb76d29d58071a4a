use Rattle.std.proofs.Common.{None}
use Rattle.trace_spans.proofs.KnownLemmas.{given_known, none_differs}
use Rattle.trace_spans.proofs.reads_now.ReadsNow.mark_new.Goals as goal

pub returns-clause-known : goal.returns-clause-known
returns-clause-known c image contents h is =
    let given = c.args.given.now in
    let read = c.args.read in
    rw (c.in_ok-copy.ensures, c.in_ok-kept.ensures.is, c.in_ok-kept.ensures.ok)
    (given_known image contents given c.args.self.now c.learn.new.known.entries read.0 h read.1 None is
    (rw (c.part-part.ensures, c.new-known.ensures, c.in_ok-kept.ensures.is, c.self.view_is) at c.in_ok-learn.ensures)
    (none_differs image contents given read.1))
