use Rattle.std.proofs.Common.{◌+◌, drop, length, refl, sym, ap, ◌∙◌, arith}
use Rattle.std.proofs.lemmas.Bool.{false≢true}
use Rattle.std.proofs.lemmas.List.{drop_all}
use Rattle.co_segments.specs.declared.stock.Stock.{Stock}
use Rattle.co_segments.specs.Placed.{entries_of_number}
use Rattle.co_segments.proofs.NumberedLemmas.{none_there, rest_at}
use Rattle.co_segments.proofs.PlacedLemmas.{in_lookup, none_stale, one_stale}
use Rattle.co_segments.proofs.StockLemmas.{segments_from_told, segments_later, stands_known}
use Rattle.co_segments.proofs.finding.find.Goals.{in-Some+in_ok-serves+else-branch, in_default}
use Rattle.co_segments.proofs.finding.find.Goals as goal

pub loop-place-init : goal.loop-place-init
loop-place-init g c = record {
  passed = c.requires.passed;
  stands = c.requires.stands;
  recent = refl;
  counted = omega arith;
  kept = refl;
}

pub returns-then-here-clause-found : goal.returns-then-here-clause-found
returns-then-here-clause-found g c = c.requires.stands.new c.if-here.true (g.P.Asked.seen c.args.parts.now).image

pub returns-then-here-clause-segments : goal.returns-then-here-clause-segments
returns-then-here-clause-segments g c =
    let image = (g.P.Asked.seen c.args.parts.now).image in
    segments_from_told image c.args.stock.now c.args.look.now c.args.here.now.state c.requires.stands.told

pub serves-requires : goal.serves-requires
serves-requires g c =
    let old = c.loop-place.invariant in
    let h = old.stands.told in
    let s = c.in-Some.segment.now in
    let e = in_lookup c.in-Some.key c.loop-place.stock.recent.entries s c.in-Some.ensures.held in
    record { meaning = h.meaning; named = h.named (e.0, s) e.1; state = h.state; known = rw old.kept h.known }

pub returns-in_err-serves-clause-segments : goal.returns-in_err-serves-clause-segments
returns-in_err-serves-clause-segments g c =
    let image = (g.P.Asked.seen c.args.parts.now).image in
    let old = c.loop-place.invariant in
    let before : Stock = c.loop-place.stock in
    let after : Stock = record before { given = c.serves.new.given } in
    segments_later before after refl (omega (arith, c.in_err-serves.ensures.buses), c.in_err-serves.ensures.more)
    (segments_from_told image before c.loop-place.look c.args.here.now.state old.stands.told)

pub returns-then-branch-clause-found : goal.returns-then-branch-clause-found
returns-then-branch-clause-found g c =
    let old = c.loop-place.invariant in
    let answer = rw old.kept at c.in_ok-serves.ensures.answer in
    (c.in-Some.segment.now, (rw old.recent at c.in-Some.ensures.held, answer.0 c.if-branch.true))

pub returns-then-branch-clause-stands : goal.returns-then-branch-clause-stands
returns-then-branch-clause-stands g c =
    let image = (g.P.Asked.seen c.args.parts.now).image in
    let old = c.loop-place.invariant in
    let h = old.stands.told in
    let s = c.in-Some.segment.now in
    let e = in_lookup c.in-Some.key c.loop-place.stock.recent.entries s c.in-Some.ensures.held in
    let before : Stock = c.loop-place.stock in
    let after : Stock = record before { given = c.serves.new.given } in
    stands_known image before after c.args.number c.loop-place.look c.serves.new.look c.args.here.now old.stands refl
    c.in_ok-serves.ensures.buses
    ((rw old.kept at c.in_ok-serves.ensures.known) h.meaning.contents h.known (h.named (e.0, s) e.1).reads)

pub returns-then-branch-clause-segments : goal.returns-then-branch-clause-segments
returns-then-branch-clause-segments g c =
    let image = (g.P.Asked.seen c.args.parts.now).image in
    let old = c.loop-place.invariant in
    let before : Stock = c.loop-place.stock in
    let after : Stock = record before { given = c.serves.new.given } in
    segments_later before after refl (omega (arith, c.in_ok-serves.ensures.buses), c.in_ok-serves.ensures.more)
    (segments_from_told image before c.loop-place.look c.args.here.now.state old.stands.told)

pub returns-then-branch-clause-counted : goal.returns-then-branch-clause-counted
returns-then-branch-clause-counted g c =
    let old = c.loop-place.invariant in
    let xs = entries_of_number c.args.number c.args.stock.now.recent.entries in
    let is = rw old.recent at c.in-Some.ensures.is in
    let cut = rest_at xs c.loop-place.place (c.in-Some.key, c.in-Some.segment.now) (sym is) in
    let counted = rw cut at old.counted in
    omega (arith, counted, c.in_ok-serves.ensures.counted)

pub loop-place-preserved : goal.loop-place-preserved
loop-place-preserved g c =
    let image = (g.P.Asked.seen c.args.parts.now).image in
    let old = c.loop-place.invariant in
    let h = old.stands.told in
    let xs = entries_of_number c.args.number c.args.stock.now.recent.entries in
    elim c.match-at.branch [
      | in-Some+in_ok-serves+else-branch w ↦ (
          let s = w.in-Some.segment.now in
          let rest = drop (c.loop-place.place + 1) xs in
          let e = in_lookup w.in-Some.key c.loop-place.stock.recent.entries s w.in-Some.ensures.held in
          let is = rw old.recent at w.in-Some.ensures.is in
          let cut = rest_at xs c.loop-place.place (w.in-Some.key, s) (sym is) in
          let answer = rw old.kept at w.in_ok-serves.ensures.answer in
          let passed = rw cut at old.passed in
          let counted = rw cut at old.counted in
          let before : Stock = c.loop-place.stock in
          let after : Stock = record before { given = w.serves.new.given } in
          rw (w.stock-is, w.look-is, w.parts-is) (record {
            passed = λ k. passed (one_stale image c.args.number c.args.here.now.state.bus (w.in-Some.key, s) rest
                (λ serves. false≢true (sym w.if-branch.false ∙ answer.1 serves)) k);
            stands = stands_known image before after c.args.number c.loop-place.look w.serves.new.look c.args.here.now
                old.stands refl w.in_ok-serves.ensures.buses
                ((rw old.kept at w.in_ok-serves.ensures.known) h.meaning.contents h.known (h.named (e.0, s) e.1).reads);
            recent = old.recent;
            counted = omega (arith, counted, w.in_ok-serves.ensures.counted);
            kept = w.in_ok-serves.ensures.kept ∙ old.kept;
          })
          )
      | in_default w ↦ (
          let none = rw old.recent at w.in_default.ensures.is in
          absurd (none_there xs c.loop-place.place (omega (arith, c.loop-place-test.true, c.count-place-end.ensures))
          (sym none))
          )
    ]

pub returns-clause-found : goal.returns-clause-found
returns-clause-found g c =
    let image = (g.P.Asked.seen c.args.parts.now).image in
    let xs = entries_of_number c.args.number c.args.stock.now.recent.entries in
    let all =
    drop_all c.loop-place.place xs (omega (arith, c.loop-place-test.false, c.count-place-end.ensures)) in
    let rest = drop c.loop-place.place xs in
    c.loop-place.invariant.passed (none_stale image c.args.number c.args.here.now.state.bus rest (ap length all))

pub returns-clause-segments : goal.returns-clause-segments
returns-clause-segments g c =
    let image = (g.P.Asked.seen c.args.parts.now).image in
    let old = c.loop-place.invariant in
    segments_from_told image c.loop-place.stock c.loop-place.look c.args.here.now.state old.stands.told
