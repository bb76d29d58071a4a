use Rattle.std.proofs.Common.{arith, length}
use Rattle.eds_entries.proofs.NameLemmas.{four_digits}
use Rattle.eds_entries.proofs.name.index_named.Goals as goal

pub overflow_cast-result : goal.overflow_cast-result
overflow_cast-result c =
    omega (arith, four_digits (length c.args.name.now) c.in_ok-index.index (omega arith) c.in_ok-index.ensures.bound)
