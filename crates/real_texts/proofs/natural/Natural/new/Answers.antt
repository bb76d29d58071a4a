use Rattle.std.proofs.Common.{◌%◌, arith}
use Rattle.real_texts.proofs.Limbs.{AreLimbs-push, number_step}
use Rattle.real_texts.proofs.natural.Natural.new.Goals as goal

pub loop-left-preserved : goal.loop-left-preserved
loop-left-preserved c =
    let l = c.loop-left in
    rw c.in_ok-push.ensures.items (
      number_step l.limbs.items l.left c.args.number l.invariant.0,
      AreLimbs-push l.limbs.items (l.left % 1000000000) l.invariant.1 (omega arith),
    )
