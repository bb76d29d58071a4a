use Rattle.std.proofs.Common.{◌≡◌, refl, sym, ◌∙◌}
use Rattle.trace_spans.specs.Reads.{Known}
use Rattle.trace_spans.proofs.KnownLemmas.{taken_over}
use Rattle.trace_spans.proofs.known_read.KnownRead.by_value.Goals as goal

pub returns-in_ok-share-clause-known : goal.returns-in_ok-share-clause-known
returns-in_ok-share-clause-known c image contents given h m =
    let known : Known = record { read = c.self.inside.read; other = c.self.inside.other } in
    let same : c.self.inside.read.content ≡ c.args.read.now.content =
    sym c.content.ensures ∙ c.same-same.ensures.0 c.if-same.true ∙ c.content-2.ensures in
    rw (c.new-known.ensures, c.in_ok-share.ensures)
    (taken_over image contents given c.args.read.now.name known c.args.read.now (rw (← c.self.view_is) at h) m refl same)
