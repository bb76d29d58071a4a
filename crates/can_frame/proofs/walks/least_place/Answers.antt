use Rattle.std.proofs.Common.{◌<◌, length, arith}
use Rattle.can_frame.specs.WaitingFrames.{identifiers}
use Rattle.can_frame.proofs.LeastLemmas.{identifier_at, least_keeps, least_takes}
use Rattle.can_frame.proofs.walks.least_place.Goals as goal
use Rattle.can_frame.proofs.walks.least_place.Goals.{then-id, else-id}

pub loop-place-preserved : goal.loop-place-preserved
loop-place-preserved c =
    let within : c.loop-place.least < length c.args.frames.now = omega (arith, c.loop-place.invariant.within) in
    let here = identifier_at c.args.frames.now c.loop-place.place c.index-frames-place.result c.loop-place-test.true in
    let best = identifier_at c.args.frames.now c.loop-place.least c.index-frames-least.result within in
    elim c.if-id.branch [
      | then-id w ↦ rw w.least-is (least_takes (identifiers c.args.frames.now) c.loop-place.place c.loop-place.least
          c.loop-place.invariant (omega (arith, here, best, w.if-id.true)))
      | else-id w ↦ rw w.least-is (least_keeps (identifiers c.args.frames.now) c.loop-place.place c.loop-place.least
          c.loop-place.invariant (omega (arith, here, best, w.if-id.false)))
    ]
