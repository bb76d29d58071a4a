use Rattle.std.proofs.Common.{◌≡◌, ◌<◌, IsTrue, length, subst, sym, arith}
use Rattle.std.proofs.lemmas.Bool.{false≢true}
use Rattle.trace_spans.specs.Reads.{IsMarked, Recorded}
use Rattle.trace_spans.proofs.MatchLemmas.{HasRead, agrees_one}
use Rattle.trace_spans.proofs.matching.differs_there.Goals as goal

pub compare-requires : goal.compare-requires
compare-requires c =
    let r = c.requires in
    let read = c.index-reads-place.result in
    let within : c.args.now.now.differing < length c.args.reads.now = omega arith in
    let marked = subst (λ (x : Recorded). IsMarked r.1.0 r.1.1.0 x) (sym c.index-reads-place.is)
    (r.1.1.1.1 c.args.now.now.differing read within) in
    (r.0, (r.1.0, (r.1.1.0, (r.1.1.1.0, marked))))

pub returns-in-Some-clause-answer : goal.returns-in-Some-clause-answer
returns-in-Some-clause-answer c image contents given h t a =
    let read = c.index-reads-place.result in
    let within : c.args.now.now.differing < length c.args.reads.now = omega arith in
    let answer = rw c.in-Some.is at (c.in_ok-same.ensures.answer image contents given h) in
    let has = subst (HasRead image) (sym c.index-reads-place.is)
    (agrees_one image c.args.reads.now a c.args.now.now.differing read within) in
    false≢true (rw (answer.1 has) at t)

pub returns-in-Some-clause-known : goal.returns-in-Some-clause-known
returns-in-Some-clause-known c image contents given h m =
    let read = c.index-reads-place.result in
    let within : c.args.now.now.differing < length c.args.reads.now = omega arith in
    c.in_ok-same.ensures.known image contents given h (subst (λ (x : Recorded). IsMarked contents given x)
    (sym c.index-reads-place.is) (m c.args.now.now.differing read within))

pub returns-in-None-clause-known : goal.returns-in-None-clause-known
returns-in-None-clause-known c image contents given h m =
    let read = c.index-reads-place.result in
    let within : c.args.now.now.differing < length c.args.reads.now = omega arith in
    c.in_ok-same.ensures.known image contents given h (subst (λ (x : Recorded). IsMarked contents given x)
    (sym c.index-reads-place.is) (m c.args.now.now.differing read within))
