use Rattle.std.proofs.Common.{◌∙◌, ap, ◌+◌, arith}
use Rattle.can_frame.specs.WireBits.{checked_bits}
use Rattle.can_frame.proofs.FrameBitLemmas.{counted, most_bits}
use Rattle.can_frame.proofs.wire.exact_bits.Goals as goal

pub returns-clause-bits : goal.returns-clause-bits
returns-clause-bits c = ap (λ slot. slot + c.stuff_bits.result) c.slot_bits.ensures.bits
    ∙ counted c.args.frame.now c.stuff_bits.result
    (c.stuff_bits.ensures.count (checked_bits c.args.frame.now) c.checked.ensures.sent)

pub returns-clause-most : goal.returns-clause-most
returns-clause-most c = omega (arith, returns-clause-bits c, most_bits c.args.frame.now, c.slot_bits.ensures.bits, c.slot_bits.ensures.most)
