use Rattle.std.proofs.Common.{◌≤◌, ◌+◌, ◌*◌}
use Rattle.can_frame.specs.Sent.{HasSent, IsWire}
use Rattle.can_frame.proofs.FrameBitLemmas.{up_to}
use Rattle.can_frame.proofs.wire.Wire.checked.Given as goal

abbrev pub invariant-loop-byte : goal.invariant-loop-byte
invariant-loop-byte l = HasSent (up_to l.frame l.byte-items l.byte-index) l.wire
    × ((l.wire.stuffing.stuff_bits ≤ 5 + 2 * l.byte-index) × IsWire l.wire)
