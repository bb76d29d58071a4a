use Rattle.std.proofs.Common.{refl}
use Rattle.trace_spans.proofs.KnownLemmas.{met_known}
use Rattle.trace_spans.proofs.reads_now.ReadsNow.take_over.Goals as goal

pub returns : goal.returns
returns c image contents given is h m =
    met_known image contents given c.args.self.now c.learn.new.known.entries c.args.read.now.name h c.args.read.now
    (rw (c.part.ensures, c.new-known.ensures, c.in_ok-share.ensures, c.self.view_is) at c.in_ok-learn.ensures) refl is m
