use Rattle.std.proofs.Common.{arith, length}
use Rattle.eds_entries.proofs.NameLemmas.{two_digits}
use Rattle.eds_entries.proofs.name.sub_named.Goals as goal

pub overflow_cast-result : goal.overflow_cast-result
overflow_cast-result c =
    omega (arith, two_digits (length c.args.digits.now) c.in_ok-sub.sub (omega arith) c.in_ok-sub.ensures.bound)
