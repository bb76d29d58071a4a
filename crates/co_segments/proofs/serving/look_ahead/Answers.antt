use Rattle.std.proofs.Common.{length, sym, nat_eq, refl, arith}
use Rattle.co_segments.specs.declared.stock.Stock.{Stock}
use Rattle.co_segments.proofs.NumberedLemmas.{if_most}
use Rattle.co_segments.proofs.PlacedLemmas.{in_lookup}
use Rattle.co_segments.proofs.StockLemmas.{segments_from_told, segments_later, stands_known}
use Rattle.co_segments.proofs.serving.look_ahead.Goals as goal

pub returns-in-None-clause-segments : goal.returns-in-None-clause-segments
returns-in-None-clause-segments g c =
    let image = (g.P.Asked.seen c.args.parts.now).image in
    segments_from_told image c.args.stock.now c.args.look.now c.args.here.now.state c.requires.told

pub serves-requires : goal.serves-requires
serves-requires g c =
    let h = c.requires.told in
    let s = c.in-Some.segment.now in
    let e = in_lookup c.in-Some._key c.args.stock.now.recent.entries s c.in-Some.ensures.held in
    record { meaning = h.meaning; named = h.named (e.0, s) e.1; state = h.state; known = h.known }

pub returns-in_err-serves-in-Some-clause-segments : goal.returns-in_err-serves-in-Some-clause-segments
returns-in_err-serves-in-Some-clause-segments g c =
    let image = (g.P.Asked.seen c.args.parts.now).image in
    let before : Stock = c.args.stock.now in
    let after : Stock = record before { given = c.serves.new.given } in
    let e = c.in_err-serves-in-Some.ensures in
    segments_later before after refl (omega (arith, e.buses), e.more)
    (segments_from_told image before c.args.look.now c.args.here.now.state c.requires.told)

pub returns-in_ok-serves-in-Some-clause-answer : goal.returns-in_ok-serves-in-Some-clause-answer
returns-in_ok-serves-in-Some-clause-answer g c =
    let s = c.in-Some.segment.now in
    let e = c.in_ok-serves-in-Some.ensures in
    let most = if_most (nat_eq s.kept.number c.args.number) (length s.kept.reads) in
    record {
      entry = (c.in-Some._key, s);
      next = sym c.in-Some.ensures.next;
      held = c.in-Some.ensures.held;
      first = rw (← c.requires.turn) c.in-Some.ensures.first;
      answer = e.answer;
      counted = omega (arith, e.counted, most);
    }

pub returns-in_ok-serves-in-Some-clause-stands : goal.returns-in_ok-serves-in-Some-clause-stands
returns-in_ok-serves-in-Some-clause-stands g c =
    let image = (g.P.Asked.seen c.args.parts.now).image in
    let h = c.requires.told in
    let s = c.in-Some.segment.now in
    let e = in_lookup c.in-Some._key c.args.stock.now.recent.entries s c.in-Some.ensures.held in
    let before : Stock = c.args.stock.now in
    let after : Stock = record before { given = c.serves.new.given } in
    stands_known image before after c.args.number c.args.look.now c.serves.new.look c.args.here.now c.requires refl
    c.in_ok-serves-in-Some.ensures.buses
    (c.in_ok-serves-in-Some.ensures.known h.meaning.contents h.known (h.named (e.0, s) e.1).reads)

pub returns-in_ok-serves-in-Some-clause-segments : goal.returns-in_ok-serves-in-Some-clause-segments
returns-in_ok-serves-in-Some-clause-segments g c =
    let image = (g.P.Asked.seen c.args.parts.now).image in
    let before : Stock = c.args.stock.now in
    let after : Stock = record before { given = c.serves.new.given } in
    let e = c.in_ok-serves-in-Some.ensures in
    segments_later before after refl (omega (arith, e.buses), e.more)
    (segments_from_told image before c.args.look.now c.args.here.now.state c.requires.told)
