use Rattle.std.proofs.Common.{arith}
use Rattle.base.proofs.DigitLemmas.{digit_value_by_table}
use Rattle.base.proofs.digits.digit_value.Goals as goal

pub returns : goal.returns
returns c = digit_value_by_table c.args.byte (omega arith)
