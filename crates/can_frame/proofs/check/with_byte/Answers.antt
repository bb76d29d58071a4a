use Rattle.std.proofs.Common.{◌*◌, ◌/◌, ◌%◌, ◌∙◌, ap, get_or, arith}
use Rattle.std.specs.Int.Bits.{bit_xor}
use Rattle.can_frame.specs.WireBits.{bits}
use Rattle.can_frame.specs.declared.check.TheConstants.{CHECKS}
use Rattle.can_frame.proofs.CheckLemmas.{by_table, stays_small}
use Rattle.can_frame.proofs.check.with_byte.Goals as goal

pub returns-clause-next : goal.returns-clause-next
returns-clause-next c = ap (λ place. bit_xor (c.args.register % 0x80 * 0x100) (get_or CHECKS place 0))
    (c.from-upper.ensures ∙ ap (bit_xor (c.args.register / 0x80)) c.from.ensures)
    ∙ by_table c.args.register c.args.byte (omega arith) c.requires.register

pub returns-clause-small : goal.returns-clause-small
returns-clause-small c = rw (returns-clause-next c) (stays_small c.args.register (bits 8 c.args.byte) c.requires.register)
