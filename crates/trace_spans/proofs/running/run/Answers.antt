use Rattle.std.proofs.Common.{◌≡◌, ◌++◌, ap, ◌∙◌}
use Rattle.image_parts.specs.Asking.{Seen, reads}
use Rattle.image_parts.proofs.QuestionLemmas.{reads_agree}
use Rattle.image_parts.specs.Contents.{Content}
use Rattle.image_parts.specs.declared.part.Part.{Part}
use Rattle.can_bus.specs.Spans.{span}
use Rattle.trace_spans.proofs.running.run.Goals as goal

pub recorded-requires : goal.recorded-requires
recorded-requires g c =
    let image = (g.P.Asked.seen c.args.parts.now).image in
    let m = span c.args.number c.args.start.now in
    let all : c.take_asked-all.result.items ≡ reads (span c.args.number c.args.start.now) image =
    c.take_asked-all.ensures.taken
    ∙ ap (λ (s : Seen Part Content). s.asked) c.in_ok-end.ensures.noted
    ∙ ap (λ xs. xs ++ reads m (g.P.Asked.seen c.take_asked-before.new.self).image) c.take_asked-before.ensures.emptied
    ∙ ap (λ i. reads m i) c.take_asked-before.ensures.image in
    (image, (c.requires.known.0, (c.requires.known.1, rw all (reads_agree (span c.args.number c.args.start.now) image))))

pub returns-clause-known : goal.returns-clause-known
returns-clause-known g c contents h =
    let image = (g.P.Asked.seen c.args.parts.now).image in
    let m = span c.args.number c.args.start.now in
    let all : c.take_asked-all.result.items ≡ reads (span c.args.number c.args.start.now) image =
    c.take_asked-all.ensures.taken
    ∙ ap (λ (s : Seen Part Content). s.asked) c.in_ok-end.ensures.noted
    ∙ ap (λ xs. xs ++ reads m (g.P.Asked.seen c.take_asked-before.new.self).image) c.take_asked-before.ensures.emptied
    ∙ ap (λ i. reads m i) c.take_asked-before.ensures.image in
    c.in_ok-reads.ensures.known image contents h (rw all (reads_agree m image))
