-- The frames of a device by what they are for: the predefined connection set keeps them apart.
use Rattle.std.specs.Prelude.{◌≡◌, ◌≢◌, ℕ, false, [], ◌∷◌, All, IfSome}
use Rattle.can_frame.specs.ErrorControl.{boot_up_message}
use Rattle.can_frame.specs.Frames.{BaseFrame}
use Rattle.can_frame.specs.Identifiers.{emergency_id, error_control_id, sdo_answer_id}
use Rattle.can_frame.specs.declared.purpose.Purpose.{Purpose}
use Rattle.can_frame.specs.declared.purpose.Purpose.TheVariants.{BootUp, Emergency, Heartbeat, Nmt, Sdo, Sync, Time, Tpdo}
use Rattle.co_device.specs.Device.{Device}
use Rattle.cia301.specs.CobIds.{is_restricted}
use Rattle.device_pdos.specs.declared.tpdo_state.TpdoState.{TpdoState}

-- a frame of a device for a purpose: a heartbeat is no boot-up message, a TPDO has none of the identifiers that no PDO
-- may have, and a device commands nothing and sends neither SYNC nor TIME
abbrev pub IsOwnFrame : ℕ → Purpose → BaseFrame → Type 0
IsOwnFrame number BootUp frame = frame ≡ boot_up_message number
IsOwnFrame number Heartbeat frame = (frame.id ≡ error_control_id number) × (frame.bytes ≢ 0 ∷ [])
IsOwnFrame number (Tpdo k) frame = is_restricted frame.id ≡ false
IsOwnFrame number (Sdo node) frame = frame.id ≡ sdo_answer_id number
IsOwnFrame number Emergency frame = frame.id ≡ emergency_id number
IsOwnFrame number Sync frame = ⊥
IsOwnFrame number Time frame = ⊥
IsOwnFrame number Nmt frame = ⊥

-- a TPDO that works has an identifier that a PDO may have
abbrev pub HasFreeIdentifier : TpdoState → Type 0
HasFreeIdentifier p = IfSome p.configuration (λ c. is_restricted c.identifier ≡ false)

-- EACH FRAME THAT WAITS AT THE DEVICE IS ITS OWN, and so will be those of its TPDOs
pub record HasOwnFrames (d : Device) : Type 0 where
  pub frames : All (λ w. IsOwnFrame d.number w.purpose w.frame) d.waiting
  pub tpdos : All HasFreeIdentifier d.tpdos
