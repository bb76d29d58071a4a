-- Frames of a CAN bus (ISO 11898-1), and the slots that they take.
use Rattle.std.specs.Prelude.{◌≡◌, ℕ, ◌+◌, ◌*◌, ◌/◌, ◌-◌, ◌<◌, ◌≤◌, nat_lt, nat_le, ◌&&◌, if◌then◌else◌, List}
use Rattle.std.specs.Prelude.{length, Option, Some, None}
use Rattle.base.specs.Bytes.{AreBytes, filled_up}

-- a base frame: its identifier and its bytes
pub record BaseFrame : Type 0 where
  pub id : ℕ
  pub bytes : List ℕ

-- an identifier has 11 bits, and a frame at most 8 bytes
pub record IsFrame (frame : BaseFrame) : Type 0 where
  pub identifier : frame.id < 0x800
  pub short : length frame.bytes ≤ 8
  pub are_bytes : AreBytes frame.bytes

-- the frame of an identifier and bytes, where they can be those of one
abbrev pub frame_of : ℕ → List ℕ → Option BaseFrame
frame_of id bytes = if nat_lt id 0x800 && nat_le (length bytes) 8 then Some (record { id = id; bytes = bytes })
    else None

-- ---- slots

-- the bit times of a frame on the bus, without stuff bits (this profile's own)
abbrev pub slot_bits : BaseFrame → ℕ
slot_bits frame = 47 + 8 * length frame.bytes

-- the time of one bit in microseconds, at a rate in kbit/s
abbrev pub bit_time : ℕ → ℕ
bit_time rate = 1000 / rate

-- ---- how a frame is stored

-- the first `count` of eight bytes are those of the frame
pub record IsStored (frame : BaseFrame) (bytes : List ℕ) (count : ℕ) : Type 0 where
  pub is_frame : IsFrame frame
  pub stored : bytes ≡ filled_up frame.bytes
  pub counted : count ≡ length frame.bytes
