use Rattle.std.proofs.Common.{refl}
use Rattle.can_frame.proofs.SentLemmas.{check_counted}
use Rattle.can_frame.proofs.wire.Wire.stuff_bits.Goals as goal

pub returns-clause-count : goal.returns-clause-count
returns-clause-count c = λ sent h. check_counted sent c.args.self _ _ _ c.and_byte-2.result refl refl refl h
    (c.and_byte-2.ensures.sent _ (c.and_byte.ensures.sent sent h.stuffed))
