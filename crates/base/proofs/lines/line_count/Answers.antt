use Rattle.std.proofs.Common.{arith}
use Rattle.base.proofs.CountLemmas.{count_more, count_fits}
use Rattle.base.proofs.lines.line_count.Goals as goal

pub overflow_add-count : goal.overflow_add-count
overflow_add-count c =
    let more = count_more c.args.text.now c.loop-at.at 32 c.loop-at.count c.feeds_at-count.result _ c.feeds_at-count.ensures
    c.loop-at.invariant.1 in
    let fits = count_fits c.args.text.now in
    record { fits = omega (arith, more, fits) }

pub loop-at-preserved : goal.loop-at-preserved
loop-at-preserved c = (
  omega arith,
  count_more c.args.text.now c.loop-at.at 32 c.loop-at.count c.feeds_at-count.result _ c.feeds_at-count.ensures
      c.loop-at.invariant.1,
)
