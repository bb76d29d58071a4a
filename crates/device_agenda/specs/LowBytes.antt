-- Sets of low bytes of identifiers (this profile's own).
use Rattle.std.specs.Prelude.{◌≡◌, ◌<◌, ℕ, ◌/◌, ◌%◌, ◌==◌, Bool, false, not, ◌&&◌, List, Option, Some, None}
use Rattle.std.specs.Prelude.{slice_index}
use Rattle.std.specs.Int.{bit_at}
use Rattle.std.specs.List.{AllByRecursion}
use Rattle.base.specs.Moments.{has_come}
use Rattle.can_frame.specs.Frames.{BaseFrame}
use Rattle.co_device.specs.Device.{Device}
use Rattle.device_agenda.specs.Agenda.{stirs}
use Rattle.device_agenda.specs.Delivered.{Delivered}
use Rattle.device_agenda.specs.declared.agenda.Agenda.{Agenda}
use Rattle.device_agenda.specs.declared.low_bytes.LowBytes.{LowBytes}
use Rattle.device_agenda.specs.Deaf.{IsDeafTo}

-- words have the bit of a byte, 64 in each
abbrev pub has_bit : List ℕ → ℕ → Bool
has_bit words low = bit_at (slice_index words (low / 64)) (low % 64) == 1

-- a set has the low byte of an identifier
abbrev pub has_low_byte_of : LowBytes → ℕ → Bool
has_low_byte_of bytes id = has_bit bytes.words (id % 256)

-- FRAMES OF IDENTIFIERS WITH OTHER LOW BYTES ARE NOTHING TO THE DEVICE
pub record IsDeafBeyond (bytes : LowBytes) (d : Device) : Type 0 where
  pub deaf : (frame : BaseFrame) → frame.id < 0x800 → has_low_byte_of bytes frame.id ≡ false → IsDeafTo frame d

-- nor are they to any of the devices
abbrev pub AreDeafBeyond : LowBytes → List Device → Type 0
AreDeafBeyond bytes ds = AllByRecursion (IsDeafBeyond bytes) ds

-- what is delivered has one of the low bytes
abbrev pub has_low_byte : LowBytes → Option Delivered → Bool
has_low_byte bytes None = false
has_low_byte bytes (Some delivered) = has_low_byte_of bytes delivered.frame.id

-- an agenda and low bytes of devices say that nothing happens in an instant
abbrev pub sleeps_on : ℕ → Option Delivered → LowBytes → Agenda → Bool
sleeps_on t delivered bytes a =
    not a.awake && (not (has_come t a.due) && not (stirs a.groups delivered && has_low_byte bytes delivered))
