-- The identifiers of frames that may be something to a device.
use Rattle.std.specs.Prelude.{◌≡◌, ◌<◌, ℕ, ◌&&◌, Bool, false}
use Rattle.can_frame.specs.Frames.{BaseFrame}
use Rattle.co_device.specs.Device.{Device}
use Rattle.device_agenda.specs.Groups.{includes}
use Rattle.device_agenda.specs.LowBytes.{has_low_byte_of}
use Rattle.device_agenda.specs.declared.reach.Reach.{Reach}
use Rattle.device_agenda.specs.Deaf.{IsDeafTo}

-- an identifier is one of them: its group is, and so is its low byte
abbrev pub reaches : Reach → ℕ → Bool
reaches reach id = includes reach.groups id && has_low_byte_of reach.low_bytes id

-- they have all identifiers of others
pub record Extends (old new : Reach) : Type 0 where
  pub kept : (id : ℕ) → id < 0x800 → reaches new id ≡ false → reaches old id ≡ false

-- frames of other identifiers are nothing to the device
pub record IsReachOf (reach : Reach) (d : Device) : Type 0 where
  pub deaf : (frame : BaseFrame) → frame.id < 0x800 → reaches reach frame.id ≡ false → IsDeafTo frame d
