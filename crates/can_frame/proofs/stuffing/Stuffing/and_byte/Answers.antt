use Rattle.can_frame.proofs.StuffingLemmas.{byte_stuffed}
use Rattle.can_frame.proofs.stuffing.Stuffing.and_byte.Goals as goal

pub returns-clause-sent : goal.returns-clause-sent
returns-clause-sent c = λ sent h. byte_stuffed sent c.args.byte c.from.result c.from-2.result c.and_four-2.result
    c.from.ensures c.from-2.ensures (c.and_four-2.ensures.sent _ (c.and_four.ensures.sent sent h))
