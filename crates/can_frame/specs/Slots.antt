-- The slots that frames take on the bus.
use Rattle.std.specs.Prelude.{ℕ, ◌*◌}
use Rattle.can_frame.specs.Frames.{BaseFrame, bit_time, slot_bits}
use Rattle.can_frame.specs.WireBits.{exact_bits}
use Rattle.can_frame.specs.declared.slot_rule.SlotRule.{SlotRule}
use Rattle.can_frame.specs.declared.slot_rule.SlotRule.TheVariants.{Unstuffed, Stuffed}

-- the bit times of a frame on the bus, by the rule that counts them
abbrev pub bits_of_slot : SlotRule → BaseFrame → ℕ
bits_of_slot Unstuffed frame = slot_bits frame
bits_of_slot Stuffed frame = exact_bits frame

-- the time of a frame on the bus in microseconds, at a rate in kbit/s
abbrev pub slot_time : SlotRule → ℕ → BaseFrame → ℕ
slot_time rule rate frame = bits_of_slot rule frame * bit_time rate
