use Rattle.co_values.proofs.Ranges.{value-complement, value-sum}
use Rattle.co_values.proofs.laws.complements_are_read.Goals as goal

pub returns-clause-complement : goal.returns-clause-complement
returns-clause-complement c = value-complement

pub returns-clause-sum : goal.returns-clause-sum
returns-clause-sum c = value-sum
