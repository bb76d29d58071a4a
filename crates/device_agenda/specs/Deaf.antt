-- Frames that are nothing to a device.
use Rattle.std.specs.Prelude.{◌≡◌, ◌⊎◌, true, false, None}
use Rattle.std.specs.List.{AllByRecursion}
use Rattle.can_frame.specs.Frames.{BaseFrame}
use Rattle.co_device.specs.Device.{Device}
use Rattle.co_device.specs.Receiving.{is_ignored, reception}
use Rattle.device_objects.specs.declared.reception.Reception.TheVariants.{Sync}
use Rattle.device_pdos.specs.Tpdos.{goes_by_sync}

-- no RPDO keeps a frame for the next SYNC, and no TPDO goes by it
pub record AwaitsNoSync (d : Device) : Type 0 where
  pub nothing_kept : AllByRecursion (λ p. p.kept ≡ None) d.rpdos
  pub no_tpdo : AllByRecursion (λ p. goes_by_sync p.configuration ≡ false) d.tpdos

-- the frame is the device's SYNC, and it awaits none
pub record IsIdleSync (frame : BaseFrame) (d : Device) : Type 0 where
  pub is_sync : reception frame d ≡ Sync
  pub awaits_none : AwaitsNoSync d

-- THE FRAME IS NOTHING TO THE DEVICE: it takes nothing of it, or it is a SYNC that it doesn't await
abbrev pub IsDeafTo : BaseFrame → Device → Type 0
IsDeafTo frame d = (is_ignored frame d ≡ true) ⊎ IsIdleSync frame d
