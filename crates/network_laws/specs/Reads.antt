-- Why an instant reads a part: the table of parts, row by row.
use Rattle.std.specs.Prelude.{◌≡◌, ◌≢◌, ◌⊎◌, ℕ, ◌+◌, ◌/◌, true, false, Contains, List, length, slice_index_or, Option}
use Rattle.std.specs.Prelude.{Some, None}
use Rattle.image_parts.specs.Asking.{outcome}
use Rattle.bus_devices.specs.Steps.{steps_due}
use Rattle.can_frame.specs.Frames.{BaseFrame}
use Rattle.can_frame.specs.Identifiers.{nmt_id, sdo_answer_id, sdo_request_id}
use Rattle.can_frame.specs.Senders.{device_sender, manager_sender}
use Rattle.co_device.specs.Device.{Device, is_in}
use Rattle.cia301.specs.declared.nmt_state.NmtState.TheVariants.{Operational, Stopped}
use Rattle.image_parts.specs.Contents.{Image, identity_of}
use Rattle.image_parts.specs.declared.identity.Identity.{Identity}
use Rattle.image_parts.specs.declared.part.Part.{Part}
use Rattle.image_parts.specs.declared.part.Part.TheVariants.{Boot, Defaults, Events, Expect, Shape}
use Rattle.pdo_rules.specs.declared.receipt.Receipt.TheVariants.{AtOnce}
use Rattle.device_objects.specs.Profile.{sync_identifier}
use Rattle.device_objects.specs.Reception.{is_addressed}
use Rattle.co_scenario.specs.Commands.{command_of}
use Rattle.co_scenario.specs.declared.nmt_command.NmtCommand.{NmtCommand}
use Rattle.co_scenario.specs.declared.nmt_command.NmtCommand.TheVariants.{ResetCommunication, ResetNode}
use Rattle.co_scenario.specs.declared.step.Step.TheVariants.{Power}
use Rattle.co_scenario.specs.declared.timed_step.TimedStep.{TimedStep}
use Rattle.sdo_client.specs.Client.{after_answer}
use Rattle.sdo_client.specs.declared.progress.Progress.TheVariants as progress
use Rattle.sdo_client.specs.declared.client_transfer.ClientTransfer.{ClientTransfer as Transfer}
use Rattle.device_pdos.specs.Rpdos.{receipt_of, rpdo_at}
use Rattle.nmt_boot.specs.Manager.{Manager}
use Rattle.manager_nodes.specs.Table.{is_own}
use Rattle.manager_nodes.specs.declared.booting.Booting.{Booting}
use Rattle.node_boot.specs.Boot.{is_as_expected, next_compared}
use Rattle.node_boot.specs.declared.boot_stage.BootStage.{BootStage}
use Rattle.node_boot.specs.declared.boot_stage.BootStage.TheVariants.{Unseen, Comparing, Writing, Configured, Failed, Own}
use Rattle.can_bus.specs.Bus.{Bus, ended_slot, after_events, after_window_start}
use Rattle.can_bus.specs.declared.slot.Slot.{Slot}
use Rattle.network_laws.specs.Boots.{IsBootUpOf, IsConfirmedBy}

-- ---- a device that has power, and a frame

-- the part is one of this node
abbrev pub IsOwnPart : ℕ → Part → Type 0
IsOwnPart number part = (part ≡ Defaults number) ⊎ (part ≡ Shape number)

-- NMT services that reset a node
abbrev pub IsReset : Option NmtCommand → Type 0
IsReset command = (command ≡ Some ResetNode) ⊎ (command ≡ Some ResetCommunication)

-- the frame is the command to reset this node, or all nodes
pub record IsResetOf (node : ℕ) (frame : BaseFrame) : Type 0 where
  pub is_command : frame.id ≡ nmt_id
  pub is_addressed_to : is_addressed node frame.bytes ≡ true
  pub resets : IsReset (command_of (slice_index_or frame.bytes 0 0))

-- the device's SDO server takes the frame as a request: an abort too, but none in Stopped
pub record TakesRequest (frame : BaseFrame) (d : Device) : Type 0 where
  pub is_request : frame.id ≡ sdo_request_id d.number
  pub is_whole : length frame.bytes ≡ 8
  pub serves : is_in Stopped d ≡ false

-- the frame is the device's SYNC in Operational, and an RPDO keeps a frame that is applied now
pub record AppliesAtSync (frame : BaseFrame) (d : Device) : Type 0 where
  pub is_sync : frame.id ≡ sync_identifier d.learnt d.values
  pub operates : is_in Operational d ≡ true
  pub number : ℕ
  pub kept : BaseFrame
  pub keeps : (rpdo_at d.rpdos number).kept ≡ Some kept

-- an RPDO of the device applies the frame at once, in Operational
pub record AppliesAtOnce (frame : BaseFrame) (d : Device) : Type 0 where
  pub operates : is_in Operational d ≡ true
  pub number : ℕ
  pub applies : receipt_of frame (rpdo_at d.rpdos number).configuration ≡ AtOnce

-- the device applies the frame of an RPDO, or takes a request to its server
abbrev pub UsesEntries : BaseFrame → Device → Type 0
UsesEntries frame d = TakesRequest frame d ⊎ (AppliesAtSync frame d ⊎ AppliesAtOnce frame d)

-- WHAT A DEVICE READS OF A FRAME: at a reset the values that it takes then and its entries, and its entries where it uses
-- them
abbrev pub IsReadByDevice : BaseFrame → Device → Part → Type 0
IsReadByDevice frame d part =
    (IsOwnPart d.number part × IsResetOf d.number frame)
    ⊎ ((part ≡ Shape d.number) × UsesEntries frame d)

-- ---- what the manager reads of a frame

-- the answer brings the number that is expected, and no other is expected after it
pub record EndsIdentity (node place : ℕ) (expected : Identity) (transfer : Transfer) (frame : BaseFrame) : Type 0 where
  pub is_answer : frame.id ≡ sdo_answer_id node
  pub bytes : List ℕ
  pub read : (after_answer transfer frame.bytes).progress ≡ Some (progress.Read bytes)
  pub same : is_as_expected expected place bytes ≡ true
  pub none_left : next_compared expected (place + 1) ≡ None

-- the write of this number is asked for at a stage: the first once all numbers are compared, and each other once
-- the one before it is confirmed
abbrev pub AsksForWrite : ℕ → Slot → BootStage → ℕ → Type 0
AsksForWrite node slot Unseen j = ⊥
AsksForWrite node slot (Comparing place expected transfer deadline) j =
    (j ≡ 0) × EndsIdentity node place expected transfer slot.frame
AsksForWrite node slot (Writing place transfer deadline) j = (j ≡ place + 1) × IsConfirmedBy node transfer (Some slot)
AsksForWrite node slot Configured j = ⊥
AsksForWrite node slot Failed j = ⊥
AsksForWrite node slot Own j = ⊥

-- the frame is a boot-up message that begins the boot of the node: that of the node in which the manager runs begins
-- none
abbrev pub BeginsBoot : Slot → Booting → Type 0
BeginsBoot slot booting = (is_own booting.stage ≡ false) × IsBootUpOf booting.number (Some slot)

-- or the first at once, where a boot begins of a node of which no number is expected
abbrev pub AsksForWriteNow : Image → Slot → Booting → ℕ → Type 0
AsksForWriteNow image slot booting j =
    AsksForWrite booting.number slot booting.stage j
    ⊎ ((j ≡ 0)
    × (BeginsBoot slot booting × (next_compared (identity_of (image (Expect booting.number))) 0 ≡ None)))

-- of a node: what is expected of it where its boot begins, and a write before it is sent
abbrev pub IsReadToBoot : Image → Slot → Booting → Part → Type 0
IsReadToBoot image slot booting part =
    ((part ≡ Expect booting.number) × BeginsBoot slot booting)
    ⊎ ((j : ℕ) × ((part ≡ Boot booting.number j) × AsksForWriteNow image slot booting j))

-- WHAT THE MANAGER READS OF A FRAME: what it needs to boot one of its nodes
abbrev pub IsReadByManager : Image → Slot → Manager → Part → Type 0
IsReadByManager image slot m part = (booting : Booting)
    × (Contains m.nodes booting × IsReadToBoot image slot booting part)

-- ---- an instant

-- an event of these switches a node on whose part it is, and whose number isn't the manager's
abbrev pub IsReadByEvents : ℕ → List TimedStep → Part → Type 0
IsReadByEvents manager due part = (node : ℕ)
    × ((node ≢ manager)
    × (IsOwnPart node part × ((step : TimedStep) × (Contains due step × (step.step ≡ Power node true)))))

-- a device with power, or the manager, reads it of the frame; not the one that sends it
abbrev pub IsReadAtDelivery : Image → Slot → Bus → Part → Type 0
IsReadAtDelivery image slot s part =
    ((d : Device) × (Contains s.devices d
    × ((device_sender d.number ≢ slot.sender) × ((d.has_power ≡ true) × IsReadByDevice slot.frame d part))))
    ⊎ ((manager_sender s.manager.number ≢ slot.sender) × IsReadByManager image slot s.manager part)

-- the bus of the instant once its events have run
abbrev pub at_delivery : Image → ℕ → Bus → Bus
at_delivery image t s = outcome (after_events t (outcome (after_window_start t s) image)) image

-- WHAT AN INSTANT READS: the events of the window that starts; what an event switches on; and what is read of the
-- frame that is delivered
abbrev pub IsReadAt : Image → ℕ → Bus → Part → Type 0
IsReadAt image t s part =
    ((t ≡ s.window) × (part ≡ Events (t / 10000)))
    ⊎ (IsReadByEvents s.manager.number (steps_due t (outcome (after_window_start t s) image).steps) part
    ⊎ ((slot : Slot) × ((ended_slot t s.wire ≡ Some slot) × IsReadAtDelivery image slot (at_delivery image t s) part)))

-- it is no part by which this node is booted: neither what is expected of it nor a write of it
abbrev pub IsNoPartOfBoot : ℕ → Part → Type 0
IsNoPartOfBoot node part = (part ≢ Expect node) × ((j : ℕ) → part ≢ Boot node j)
