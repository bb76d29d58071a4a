use Rattle.eds_dcf.proofs.LastLemmas.{nothing_at}
use Rattle.eds_dcf.proofs.written.Written.none.Goals as goal

pub invariant_of-result : goal.invariant_of-result
invariant_of-result c = λ index sub clear. nothing_at c.new.result c.new.ensures (index, sub)
