use Rattle.std.proofs.Common.{ap, length, refl}
use Rattle.can_frame.proofs.FrameBitLemmas.{head_sent}
use Rattle.can_frame.proofs.wire.Wire.headed.Goals as goal

pub returns-clause-sent : goal.returns-clause-sent
returns-clause-sent c = head_sent c.args.frame.now c.id-id.result _ _ _ _ c.and_byte-2.result c.id-id.ensures.frame
    c.id-id.ensures.id (ap length c.bytes.ensures.bytes) refl refl refl
    (c.and_byte-2.ensures.sent _ (c.and_byte.ensures.sent _ c.started.ensures.sent))
