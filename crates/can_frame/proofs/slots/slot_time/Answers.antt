use Rattle.std.proofs.Common.{arith}
use Rattle.std.proofs.Math.Nat.{mul-le-mul}
use Rattle.can_frame.proofs.slots.slot_time.Goals as goal

pub overflow_mul-result : goal.overflow_mul-result
overflow_mul-result c = omega (arith, mul-le-mul c.bits_of_slot.ensures.most c.bit_time.ensures.most)
