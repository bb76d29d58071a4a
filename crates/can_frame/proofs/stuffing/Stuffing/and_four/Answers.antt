use Rattle.std.proofs.Common.{◌+◌, arith}
use Rattle.can_frame.proofs.StuffingLemmas.{few_stuff_bits, four_stuffed, is_row}
use Rattle.can_frame.proofs.stuffing.Stuffing.and_four.Goals as goal

pub returns-clause-sent : goal.returns-clause-sent
returns-clause-sent c = λ sent h. four_stuffed sent c.args.self c.args.four c.from.result c.from-2.result c.requires.four
    c.requires.row c.from.ensures c.from-2.ensures h

pub returns-clause-few : goal.returns-clause-few
returns-clause-few c = omega (arith, c.from-2.ensures, few_stuff_bits (c.args.self.row + c.args.four) (omega arith))

pub returns-clause-row : goal.returns-clause-row
returns-clause-row c = rw c.from.ensures (is_row (c.args.self.row + c.args.four) (omega arith))
