-- Blocks of eight devices.
use Rattle.std.specs.Prelude.{◌≡◌, ◌<◌, ℕ, Bool, List, [], ◌∷◌, length, map, slice_set, take, drop, Option, ⊤}
use Rattle.bus_devices.specs.Senders.{device_lists}
use Rattle.bus_devices.specs.declared.outlook.Outlook.{Outlook}
use Rattle.bus_devices.specs.declared.block.Block.{Block}
use Rattle.bus_devices.specs.Places.{device_at}
use Rattle.can_frame.specs.Winner.{contenders, IsWinner}
use Rattle.co_device.specs.Device.{Device, moments}
use Rattle.device_agenda.specs.Agenda.{IsAgendaOf, Sleeps}
use Rattle.device_agenda.specs.Alarms.{agenda_by}
use Rattle.device_agenda.specs.Delivered.{Delivered}
use Rattle.device_agenda.specs.declared.alarm.Alarm.{Alarm}
use Rattle.device_agenda.specs.LowBytes.{AreDeafBeyond, IsDeafBeyond, sleeps_on}
use Rattle.device_agenda.specs.declared.groups.Groups.{Groups}
use Rattle.device_agenda.specs.declared.low_bytes.LowBytes.{LowBytes}

-- when devices have to run, by an alarm
abbrev pub IsAlarmOf : Outlook → List Device → Type 0
IsAlarmOf outlook ds = IsAgendaOf (agenda_by outlook.alarm) ds

-- which of the frames that wait at devices wins
abbrev pub IsBestOf : Outlook → List Device → Type 0
IsBestOf outlook ds = IsWinner (contenders (device_lists ds)) outlook.best

-- what is known of devices: both
pub record IsOutlookOf (outlook : Outlook) (ds : List Device) : Type 0 where
  pub agenda : IsAlarmOf outlook ds
  pub best : IsBestOf outlook ds

-- it is known of each of the devices; there may be more of it
abbrev pub AreEachOf : (Outlook → List Device → Type 0) → List Outlook → List Device → Type 0
AreEachOf Of outlooks [] = ⊤
AreEachOf Of [] (d ∷ ds) = ⊥
AreEachOf Of (o ∷ outlooks) (d ∷ ds) = Of o (d ∷ []) × AreEachOf Of outlooks ds

abbrev pub AreOutlooksOf : List Outlook → List Device → Type 0
AreOutlooksOf outlooks ds = AreEachOf IsOutlookOf outlooks ds

-- WHAT IS KNOWN OF SO MANY DEVICES FOLLOWS FROM WHAT IS KNOWN OF EACH: it stays where that does, whatever they did
pub record FollowsFromEach (outlook : Outlook) (each : List Outlook) (count : ℕ) : Type 0 where
  pub alarm : (ds : List Device) → length ds ≡ count → AreEachOf IsAlarmOf each ds → IsAlarmOf outlook ds
  pub best : (ds : List Device) → length ds ≡ count → AreEachOf IsBestOf each ds → IsBestOf outlook ds

-- what is known of the devices of a block: of each, what follows of all of them, and beyond which low bytes they are
-- deaf
pub record IsBlockOf (block : Block) (ds : List Device) : Type 0 where
  pub each : AreOutlooksOf block.each ds
  pub outlook : FollowsFromEach block.outlook block.each (length ds)
  pub low_bytes : AreDeafBeyond block.low_bytes ds

-- nothing happens to its devices in an instant
abbrev pub block_sleeps : ℕ → Option Delivered → Block → Bool
block_sleeps t delivered block = sleeps_on t delivered block.low_bytes (agenda_by block.outlook.alarm)

-- blocks of the devices, of eight at a time
abbrev pub AreBlocksOf : List Block → List Device → Type 0
AreBlocksOf [] ds = ds ≡ []
AreBlocksOf (block ∷ blocks) ds = IsBlockOf block (take 8 ds) × AreBlocksOf blocks (drop 8 ds)

-- it is known of the devices, of eight at a time
abbrev pub AreEightsOf : (Outlook → List Device → Type 0) → List Block → List Device → Type 0
AreEightsOf Of [] ds = ds ≡ []
AreEightsOf Of (block ∷ blocks) ds = Of block.outlook (take 8 ds) × AreEightsOf Of blocks (drop 8 ds)

-- WHAT IS KNOWN OF ALL DEVICES FOLLOWS FROM WHAT IS KNOWN OF EACH EIGHT
pub record FollowsFromBlocks (whole : Outlook) (blocks : List Block) : Type 0 where
  pub alarm : (ds : List Device) → AreEightsOf IsAlarmOf blocks ds → IsAlarmOf whole ds
  pub best : (ds : List Device) → AreEightsOf IsBestOf blocks ds → IsBestOf whole ds

-- what is known of the devices of each block, and the alarm of each
abbrev pub outlooks_of : List Block → List Outlook
outlooks_of blocks = map (λ b. b.outlook) blocks

abbrev pub alarms_of : List Block → List Alarm
alarms_of blocks = map (λ b. b.outlook.alarm) blocks

-- a device is due, sleeps and is deaf as before, and where no frame waited at it, none does
pub record IsDueAsBefore (was now : Device) : Type 0 where
  pub due : moments now ≡ moments was
  pub asleep : (groups : Groups) → Sleeps groups was → Sleeps groups now
  pub deaf : (bytes : LowBytes) → IsDeafBeyond bytes was → IsDeafBeyond bytes now
  pub silent : was.waiting ≡ [] → now.waiting ≡ []

-- what was known of devices, where since then the frames have changed that wait at the device at a place
pub record WasKnown (Known : List Device → Type 0) (i : ℕ) (ds : List Device) : Type 0 where
  pub before : List Device
  pub now : Device
  pub of : Known before
  pub within : i < length before
  pub still : IsDueAsBefore (device_at before i) now
  pub changed : ds ≡ slice_set before i now

-- what is known of the devices of a bus: of each eight of them, and what follows of all
pub record AreKnown (blocks : List Block) (whole : Outlook) (ds : List Device) : Type 0 where
  pub each : AreBlocksOf blocks ds
  pub all : FollowsFromBlocks whole blocks
