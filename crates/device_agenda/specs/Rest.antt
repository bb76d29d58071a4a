-- A device at rest.
use Rattle.std.specs.Prelude.{◌≡◌, true, false, None}
use Rattle.std.specs.List.{AllByRecursion}
use Rattle.device_pdos.specs.Tpdos.{is_wanted}
use Rattle.co_device.specs.Device.{Device, is_in}
use Rattle.cia301.specs.declared.nmt_state.NmtState.TheVariants.{Operational}

-- no SYNC is left, and in Operational no TPDO is wanted: an event-driven one is inhibited, or has the bytes that it
-- sent last
pub record Rests (d : Device) : Type 0 where
  pub unsynced : d.synced ≡ None
  pub unwanted : is_in Operational d ≡ true → AllByRecursion (λ p. is_wanted d.values p ≡ false) d.tpdos
