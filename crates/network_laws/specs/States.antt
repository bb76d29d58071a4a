-- What holds of a device in an NMT state.
use Rattle.std.specs.Prelude.{◌≡◌, ℕ, true, false, [], ◌∷◌, All, None}
use Rattle.can_frame.specs.WaitingFrames.{is_unwanted}
use Rattle.can_frame.specs.declared.unwanted.Unwanted.{Unwanted}
use Rattle.can_frame.specs.declared.unwanted.Unwanted.TheVariants.{Emergencies, Sdos, Tpdos}
use Rattle.pdo_rules.specs.Tpdo.{remembering_nothing}
use Rattle.co_sdo.specs.declared.transfer.Transfer.TheVariants.{Idle}
use Rattle.std.specs.List.{AllByRecursion}
use Rattle.co_device.specs.Device.{Device, boot_up_frame, is_in, without_power}
use Rattle.cia301.specs.declared.nmt_state.NmtState.TheVariants.{PreOperational, Stopped}

-- Initialisation has ended: the device is in Pre-operational, its boot-up message waits and no other frame, and no
-- transfer is open
pub record HasBooted (number : ℕ) (d : Device) : Type 0 where
  pub has_power : d.has_power ≡ true
  pub in_state : d.state ≡ PreOperational
  pub waits : d.waiting ≡ boot_up_frame number ∷ []
  pub closed : d.transfer ≡ Idle

-- no frame of this kind waits
abbrev pub NoneOfKindWaits : Unwanted → Device → Type 0
NoneOfKindWaits unwanted d = All (λ w. is_unwanted unwanted w.purpose ≡ false) d.waiting

-- no answer of the SDO server waits and no emergency object, and no transfer is open
pub record SaysNothing (d : Device) : Type 0 where
  pub no_answer : NoneOfKindWaits Sdos d
  pub no_emergency : NoneOfKindWaits Emergencies d
  pub closed : d.transfer ≡ Idle

-- in Stopped the SDO server is silent, and no emergency object is sent
abbrev pub IsSilent : Device → Type 0
IsSilent d = is_in Stopped d ≡ true → SaysNothing d

-- no TPDO waits, none remembers anything, and no RPDO keeps a frame
pub record HasNoPdo (d : Device) : Type 0 where
  pub no_tpdo : NoneOfKindWaits Tpdos d
  pub nothing_remembered : AllByRecursion (λ p. p.remembered ≡ remembering_nothing) d.tpdos
  pub nothing_kept : AllByRecursion (λ p. p.kept ≡ None) d.rpdos

-- without power nothing waits, nothing is due, nothing is open and nothing is remembered
abbrev pub IsDark : Device → Type 0
IsDark d = d.has_power ≡ false → d ≡ without_power d.spent d.number
