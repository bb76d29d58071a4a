use Rattle.std.proofs.Common.{◌≡◌, sym}
use Rattle.trace_spans.proofs.KnownLemmas.{extends_itself}
use Rattle.trace_spans.proofs.matching.has.Goals as goal

pub compare-requires : goal.compare-requires
compare-requires g c =
    let r = c.requires in
    ((g.P.Asked.seen c.args.parts.now).image, (r.0, (c.args.given.now, (r.1.0, r.1.1))))

pub returns-in-Some-clause-answer : goal.returns-in-Some-clause-answer
returns-in-Some-clause-answer g c =
    let r = c.requires in
    rw c.in-Some.is at (c.in_ok-same.ensures.answer (g.P.Asked.seen c.args.parts.now).image r.0 c.args.given.now r.1.0)

pub returns-in-Some-clause-known : goal.returns-in-Some-clause-known
returns-in-Some-clause-known g c contents h m =
    let image = (g.P.Asked.seen c.args.parts.now).image in
    extends_itself image contents c.args.given.now c.compare.new.self
    (c.in_ok-same.ensures.known image contents c.args.given.now h m)

pub returns-in_ok-same-in-None-clause-known : goal.returns-in_ok-same-in-None-clause-known
returns-in_ok-same-in-None-clause-known g c contents h m =
    let image = (g.P.Asked.seen c.args.parts.now).image in
    let is : image c.args.read.now.name ≡ c.in_ok-content-in-None.content =
    sym (rw c.part-in-None.ensures at c.in_ok-content-in-None.ensures.value) in
    c.in_ok-same-in-None.ensures.known image contents is
    (c.in_ok-same.ensures.known image contents c.args.given.now h m) m
