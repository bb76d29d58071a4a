use Rattle.std.proofs.lemmas.List.{take_all}
use Rattle.can_frame.proofs.WinnerLemmas.{winner_more}
use Rattle.can_frame.proofs.arbitration.winner.Goals as goal

pub loop-sender-preserved : goal.loop-sender-preserved
loop-sender-preserved c =
    let item = c.loop-sender-item in
    winner_more _ c.args.lists.now c.loop-sender.sender-index item.result c.loop-sender.best c.contender.result
    c.lower-best.result c.loop-sender-test.true c.loop-sender.invariant (rw item.is at c.contender.ensures)
    c.lower-best.ensures

pub returns : goal.returns
returns c = rw (take_all c.loop-sender.sender-index c.args.lists.now c.loop-sender-test.false) at c.loop-sender.invariant
