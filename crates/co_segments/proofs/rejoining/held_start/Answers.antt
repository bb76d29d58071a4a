use Rattle.std.proofs.Common.{drop, length, sym, ap, arith}
use Rattle.std.proofs.lemmas.List.{drop_all}
use Rattle.co_segments.proofs.NumberedLemmas.{all_stale, none_there, one_passed}
use Rattle.co_segments.specs.Placed.{entries_of_number}
use Rattle.co_segments.proofs.PlacedLemmas.{in_lookup, none_stale}
use Rattle.co_segments.proofs.rejoining.held_start.Goals.{in-Some+else-differs_there+in_ok-found+in_default-2}
use Rattle.co_segments.proofs.rejoining.held_start.Goals.{in_default}
use Rattle.co_segments.proofs.rejoining.held_start.Goals as goal

pub loop-place-init : goal.loop-place-init
loop-place-init c image = all_stale image c.args.number c.args.bus.now c.args.recent.now.entries

pub returns-in-Some-2 : goal.returns-in-Some-2
returns-in-Some-2 c =
    let s = c.in-Some.segment.now in
    let e = in_lookup c.in-Some._key c.args.recent.now.entries s c.in-Some.ensures.held in
    ((e.0, s), (e.1, rw c.in-Some-2.is at c.in_ok-found.ensures))

pub loop-place-preserved-then-differs_there : goal.loop-place-preserved-then-differs_there
loop-place-preserved-then-differs_there c image =
    let s = c.in-Some.segment.now in
    one_passed image c.args.number c.args.bus.now c.args.recent.now.entries c.loop-place.place c.in-Some._key s
    (sym c.in-Some.ensures.is) (λ serves. c.differs_there.ensures c.if-differs_there.true serves.1)
    (c.loop-place.invariant image)

pub loop-place-preserved : goal.loop-place-preserved
loop-place-preserved c image =
    let es = c.args.recent.now.entries in
    elim c.match-at.branch [
      | in-Some+else-differs_there+in_ok-found+in_default-2 w ↦
          one_passed image c.args.number c.args.bus.now es c.loop-place.place w.in-Some._key w.in-Some.segment.now
          (sym w.in-Some.ensures.is) ((rw w.in_default-2.is at w.in_ok-found.ensures) image)
          (c.loop-place.invariant image)
      | in_default w ↦ absurd (none_there (entries_of_number c.args.number es) c.loop-place.place
          (omega (arith, c.loop-place-test.true, c.count-count.ensures)) (sym w.in_default.ensures.is))
    ]

pub returns : goal.returns
returns c image =
    let xs = entries_of_number c.args.number c.args.recent.now.entries in
    let all = drop_all c.loop-place.place xs (omega (arith, c.loop-place-test.false, c.count-count.ensures)) in
    c.loop-place.invariant image
    (none_stale image c.args.number c.args.bus.now (drop c.loop-place.place xs) (ap length all))
