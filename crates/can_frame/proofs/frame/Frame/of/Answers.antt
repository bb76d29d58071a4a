use Rattle.std.proofs.Common.{arith}
use Rattle.can_frame.proofs.StoredLemmas.{stored_over_zeros}
use Rattle.can_frame.proofs.frame.Frame.of.Goals as goal

pub invariant_of-result : goal.invariant_of-result
invariant_of-result c =
    stored_over_zeros c.args.id c.args.bytes.now c.copy_from_slice.new.self c.requires.identifier c.requires.short
    (λ i. omega (arith, c.type_inv.bytes i)) c.copy_from_slice.ensures.after
