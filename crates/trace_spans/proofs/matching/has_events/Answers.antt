use Rattle.std.proofs.Common.{◌≡◌, ◌∙◌, sym}
use Rattle.trace_spans.proofs.KnownLemmas.{extends_itself}
use Rattle.trace_spans.proofs.matching.has_events.Goals as goal

pub returns-then-is-clause-known : goal.returns-then-is-clause-known
returns-then-is-clause-known g c contents h m =
    let image = (g.P.Asked.seen c.args.parts.now).image in
    rw c.note_events.ensures (extends_itself image contents c.args.given.now c.args.now.now.reads h)

pub returns-clause-known : goal.returns-clause-known
returns-clause-known g c contents h m =
    let image = (g.P.Asked.seen c.args.parts.now).image in
    let is : image c.args.read.now.name ≡ c.of_events-content.result =
    rw c.requires (c.in_ok-events.ensures.value ∙ sym c.of_events-content.ensures) in
    c.in_ok-same.ensures.known image contents is (rw c.note_events.ensures h) m
