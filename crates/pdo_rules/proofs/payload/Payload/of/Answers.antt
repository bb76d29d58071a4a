use Rattle.std.proofs.Common.{arith}
use Rattle.pdo_rules.proofs.PayloadLemmas.{stored_over_zeros}
use Rattle.pdo_rules.proofs.payload.Payload.of.Goals as goal

pub invariant_of-result : goal.invariant_of-result
invariant_of-result c =
    stored_over_zeros c.args.bytes.now c.copy_from_slice.new.self c.requires (λ i. omega (arith, c.type_inv.bytes i))
    c.copy_from_slice.ensures.after
