use Rattle.std.proofs.Common.{refl, arith}
use Rattle.can_frame.proofs.FrameBitLemmas.{all_sent, byte_sent}
use Rattle.can_frame.proofs.wire.Wire.checked.Goals as goal

pub loop-byte-preserved : goal.loop-byte-preserved
loop-byte-preserved c = (
  byte_sent c.args.frame.now c.bytes-byte-items.result.now c.loop-byte.byte-index _ c.loop-byte.wire c.and_byte-wire.result
      c.loop-byte-test.true refl c.loop-byte.invariant.0 c.and_byte-wire.ensures.sent,
  (omega (arith, c.loop-byte.invariant.1.0, c.and_byte-wire.ensures.few), c.and_byte-wire.ensures.wire),
)

pub returns-clause-sent : goal.returns-clause-sent
returns-clause-sent c = all_sent c.args.frame.now c.bytes-byte-items.result.now c.loop-byte.byte-index c.loop-byte.wire
    c.bytes-byte-items.ensures.bytes c.loop-byte-test.false c.loop-byte.invariant.0
