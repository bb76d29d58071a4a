use Rattle.std.proofs.Common.{arith, filter}
use Rattle.can_bus.specs.Runs.{is_shown}
use Rattle.trace_spans.proofs.PassageLemmas.{cut_more, cut_whole}
use Rattle.trace_spans.proofs.passages.cut_all.Goals as goal

pub loop-place-preserved : goal.loop-place-preserved
loop-place-preserved c = cut_more (filter (is_shown c.args.horizon)) c.loop-place.place c.args.passages.now
    c.loop-place.passages c.index-passages-place.result c.cut.new.passage (omega arith) c.loop-place.invariant c.in_ok-cut.ensures

pub returns : goal.returns
returns c = cut_whole c.args.horizon c.loop-place.place c.args.passages.now c.loop-place.passages (omega arith)
    c.loop-place.invariant
