use Rattle.co_values.proofs.Ranges.{in_range-number, in_range-formula}
use Rattle.co_values.proofs.laws.numbers_are_in_range.Goals as goal

pub returns-clause-number : goal.returns-clause-number
returns-clause-number c = in_range-number

pub returns-clause-formula : goal.returns-clause-formula
returns-clause-formula c = in_range-formula
