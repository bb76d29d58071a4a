use Rattle.std.proofs.Common.{◌≡◌, false, IsTrue, refl, sym, subst, ◌∙◌, arith, rules}
use Rattle.std.proofs.lemmas.Bool.{false≢true}
use Rattle.std.proofs.lemmas.List.{get_or_default}
use Rattle.trace_spans.specs.Reads.{IsMarked, Recorded}
use Rattle.trace_spans.proofs.KnownLemmas.{extends_in_turn, extends_itself, marked_later}
use Rattle.trace_spans.proofs.MatchLemmas.{HasRead, agrees_all, agrees_one, one_more}
use Rattle.trace_spans.proofs.matching.matches.Goals as goal

pub differs_there-requires : goal.differs_there-requires
differs_there-requires g c =
    let r = c.requires in
    ((g.P.Asked.seen c.args.parts.now).image, (r.0, (c.args.given.now, (r.1.0, r.1.1))))

pub returns-then-differs-clause-answer : goal.returns-then-differs-clause-answer
returns-then-differs-clause-answer g c =
    let r = c.requires in
    let no = c.in_ok-differs.ensures.answer (g.P.Asked.seen c.args.parts.now).image r.0 c.args.given.now r.1.0 c.if-differs.true in (
      (λ t. absurd (false≢true t)),
      (λ a. absurd (no a)),
    )

pub returns-then-differs-clause-known : goal.returns-then-differs-clause-known
returns-then-differs-clause-known g c contents h m =
    let image = (g.P.Asked.seen c.args.parts.now).image in
    extends_itself image contents c.args.given.now c.differs_there.new.now.reads
    (c.in_ok-differs.ensures.known image contents c.args.given.now h m)

pub loop-place-init : goal.loop-place-init
loop-place-init g c = record {
  so_far = λ k d h. absurd (omega (arith, h));
  known = λ contents h m.
      let image = (g.P.Asked.seen c.args.parts.now).image in
      extends_itself image contents c.args.given.now c.differs_there.new.now.reads
      (c.in_ok-differs.ensures.known image contents c.args.given.now h m);
  more = omega arith;
  counted = omega arith;
  kept = refl;
}

pub has-requires : goal.has-requires
has-requires g c =
    let old = c.loop-place.invariant in
    let r = c.requires in
    let ext = old.known r.0 r.1.0 r.1.1 in
    let read = c.index-reads-place.result in
    let marked = subst (λ (x : Recorded). IsMarked r.0 c.args.given.now x) (sym c.index-reads-place.is)
    (r.1.1 c.loop-place.place read c.loop-place-test.true) in (
      ext.meaning,
      (
        rw old.kept ext.known,
        marked_later r.0 ext.meaning c.args.given.now c.loop-place.given read ext.keeps ext.more marked,
      ),
    )

pub returns-then-not-same-clause-answer : goal.returns-then-not-same-clause-answer
returns-then-not-same-clause-answer g c =
    let image = (g.P.Asked.seen c.args.parts.now).image in
    let old = c.loop-place.invariant in
    let read = c.index-reads-place.result in
    let answer = rw old.kept at c.in_ok-same.ensures.answer in
    let no : c.in_ok-same.same ≡ false = search (c.if-not-same.true, rules) in (
      (λ t. absurd (false≢true t)),
      (λ a. sym no ∙ answer.1 (subst (HasRead image) (sym c.index-reads-place.is)
          (agrees_one image c.args.reads.now a c.loop-place.place read c.loop-place-test.true))),
    )

pub returns-then-not-same-clause-known : goal.returns-then-not-same-clause-known
returns-then-not-same-clause-known g c contents h m =
    let image = (g.P.Asked.seen c.args.parts.now).image in
    let old = c.loop-place.invariant in
    let ext = old.known contents h m in
    let read = c.index-reads-place.result in
    let marked = subst (λ (x : Recorded). IsMarked contents c.args.given.now x) (sym c.index-reads-place.is)
    (m c.loop-place.place read c.loop-place-test.true) in
    let later = marked_later contents ext.meaning c.args.given.now c.loop-place.given read ext.keeps ext.more marked in
    extends_in_turn image contents c.args.given.now c.loop-place.given c.has.new.given c.loop-place.now.reads c.has.new.now.reads ext
    ((rw old.kept at c.in_ok-same.ensures.known) ext.meaning ext.known later)

pub loop-place-preserved : goal.loop-place-preserved
loop-place-preserved g c =
    let image = (g.P.Asked.seen c.args.parts.now).image in
    let old = c.loop-place.invariant in
    let read = c.index-reads-place.result in
    let answer = rw old.kept at c.in_ok-same.ensures.answer in
    let yes : IsTrue c.in_ok-same.same = search (c.if-not-same.false, rules) in
    let has : HasRead image read = answer.0 yes in
    record {
      so_far = one_more image c.args.reads.now c.loop-place.place old.so_far (λ d. subst (HasRead image)
          (c.index-reads-place.is
          ∙ get_or_default c.args.reads.now c.loop-place.place read d c.loop-place-test.true) has);
      known = λ contents h m.
          let ext = old.known contents h m in
          let marked = subst (λ (x : Recorded). IsMarked contents c.args.given.now x) (sym c.index-reads-place.is)
          (m c.loop-place.place read c.loop-place-test.true) in
          let later = marked_later contents ext.meaning c.args.given.now c.loop-place.given read ext.keeps ext.more marked
          in
          extends_in_turn image contents c.args.given.now c.loop-place.given c.has.new.given c.loop-place.now.reads
          c.has.new.now.reads ext ((rw old.kept at c.in_ok-same.ensures.known) ext.meaning ext.known later);
      more = omega (arith, old.more, c.in_ok-same.ensures.more);
      counted = omega (arith, old.counted, c.in_ok-same.ensures.counted);
      kept = c.in_ok-same.ensures.kept ∙ old.kept;
    }

pub returns-clause-answer : goal.returns-clause-answer
returns-clause-answer g c =
    let image = (g.P.Asked.seen c.args.parts.now).image in
    let old = c.loop-place.invariant in (
      (λ t. agrees_all image c.args.reads.now (λ k d w. old.so_far k d (omega (arith, w, c.loop-place-test.false)))),
      (λ a. refl),
    )
