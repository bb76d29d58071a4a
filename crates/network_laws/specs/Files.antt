-- What the files say of a device, and what the device holds.
use Rattle.std.specs.Prelude.{◌≡◌, ◌≢◌, ◌⊎◌, ℕ, ◌<◌, Bool, true, false, Contains, List, Some, slice_get}
use Rattle.std.specs.FinMap.{get}
use Rattle.network_laws.specs.Boots.{IsBootUpOf}
use Rattle.can_bus.specs.Bus.{Bus}
use Rattle.can_frame.specs.WaitingFrames.{waits_for}
use Rattle.can_frame.specs.declared.purpose.Purpose.TheVariants.{BootUp}
use Rattle.co_device.specs.Device.{Device}
use Rattle.co_dict.specs.Values.{Values}
use Rattle.concise_dcf.specs.Concise.{IsTextOf}
use Rattle.concise_dcf.specs.Writes.{place_of}
use Rattle.concise_dcf.specs.declared.write.Write.{Write}
use Rattle.network_laws.specs.Written.{error_register}
use Rattle.manager_nodes.specs.declared.booting.Booting.{Booting}
use Rattle.node_boot.specs.declared.boot_stage.BootStage.TheVariants.{Configured}

-- of a list of writes the last that names the entry has this data
pub record IsLastIn (writes : List Write) (place : ℕ × ℕ) (bytes : List ℕ) : Type 0 where
  pub number : ℕ
  pub write : Write
  pub there : slice_get writes number ≡ Some write
  pub names : place_of write ≡ place
  pub gives : write.bytes ≡ bytes
  pub is_last : (later : ℕ) (other : Write) → number < later → slice_get writes later ≡ Some other
      → place_of other ≢ place

-- THE CONCISE DCF GIVES THE ENTRY THIS DATA: so the last of its writes that names it
abbrev pub IsGivenBy : List ℕ → ℕ × ℕ → List ℕ → Type 0
IsGivenBy text place bytes = (writes : List Write) × (IsTextOf writes text × IsLastIn writes place bytes)

-- the entry has the data
abbrev pub HasData : Values → ℕ × ℕ → List ℕ → Type 0
HasData values place bytes = get values place ≡ Some bytes

-- the exceptions: the error register, and an entry that is marked
abbrev pub IsExcepted : (ℕ × ℕ → Bool) → ℕ × ℕ → Type 0
IsExcepted marks place = (place ≡ error_register) ⊎ (marks place ≡ true)

-- ---- a node on a bus

-- the manager has the node configured
pub record HasConfigured (s : Bus) (node : ℕ) : Type 0 where
  pub booting : Booting
  pub listed : Contains s.manager.nodes booting
  pub number : booting.number ≡ node
  pub stage : booting.stage ≡ Configured

-- the device is that of the node and has power, and no boot-up message of the node waits there or is on the wire
pub record IsUp (s : Bus) (node : ℕ) (d : Device) : Type 0 where
  pub listed : Contains s.devices d
  pub number : d.number ≡ node
  pub has_power : d.has_power ≡ true
  pub none_waits : waits_for BootUp d.waiting ≡ false
  pub none_on_wire : IsBootUpOf node s.wire → ⊥
