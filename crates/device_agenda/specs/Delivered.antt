-- What is delivered on a bus in an instant.
use Rattle.std.specs.Prelude.{◌≡◌, ◌<◌, ℕ, ◌%◌}
use Rattle.can_frame.specs.Frames.{BaseFrame}
use Rattle.device_agenda.specs.Groups.{group_of}

-- a frame, and who sent it
pub record Delivered : Type 0 where
  pub sender : ℕ
  pub frame : BaseFrame

-- its identifier has 11 bits, and these are its group and its low byte
pub record HasGroupAndLowByte (delivered : Delivered) (number low : ℕ) : Type 0 where
  pub identifier : delivered.frame.id < 0x800
  pub group : number ≡ group_of delivered.frame.id
  pub low_byte : low ≡ delivered.frame.id % 256
