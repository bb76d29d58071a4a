use Rattle.co_values.proofs.Pairs.{pairs_more, pairs_all}
use Rattle.co_values.proofs.hex.read_pairs.Goals as goal

pub loop-pair-preserved : goal.loop-pair-preserved
loop-pair-preserved c = pairs_more c.loop-pair.pair c.pair_number.result c.args.text.now c.loop-pair.bytes.items _
    c.loop-pair-test.true c.pair_number.ensures c.in_ok-push.ensures.items c.loop-pair.invariant

pub returns : goal.returns
returns c = pairs_all c.loop-pair.pair c.args.text.now c.loop-pair.bytes.items c.loop-pair-test.false
    c.loop-pair.invariant
