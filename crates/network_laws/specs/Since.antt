-- Marks of entries since each last took its default, at the last reset of its node or, in 1000h to 1FFFh, of its
-- communication: what an event or an RPDO wrote since then.
use Rattle.std.specs.Prelude.{ℕ, zero, suc, ◌==◌, ◌&&◌, Bool, true, false, Option, Some, slice_index_or}
use Rattle.std.specs.Prelude.{if◌then◌else◌}
use Rattle.std.specs.Option.{option_map_or}
use Rattle.base.specs.Ranges.{is_between}
use Rattle.can_bus.specs.Bus.{Bus, ended_slot}
use Rattle.can_bus.specs.Spans.{bus_at}
use Rattle.can_bus.specs.declared.slot.Slot.{Slot}
use Rattle.can_frame.specs.Frames.{BaseFrame}
use Rattle.can_frame.specs.Identifiers.{nmt_id}
use Rattle.co_scenario.specs.Commands.{command_of}
use Rattle.co_scenario.specs.declared.nmt_command.NmtCommand.{NmtCommand}
use Rattle.co_scenario.specs.declared.nmt_command.NmtCommand.TheVariants.{ResetCommunication, ResetNode}
use Rattle.device_objects.specs.Reception.{is_addressed}
use Rattle.image_parts.specs.Contents.{Image}
use Rattle.network_laws.specs.Marks.{MarkedEntries, after_writes, no_marks, writes_at}

-- an entry takes its default again: at a reset of the node each, and at one of its communication those of the
-- communication profile area (CiA 301: 1000h to 1FFFh)
abbrev pub is_restored_by : Option NmtCommand → ℕ × ℕ → Bool
is_restored_by (Some ResetNode) place = true
is_restored_by (Some ResetCommunication) place = is_between 0x1000 0x1FFF place.0
is_restored_by other place = false

-- the frame is such a command to this node, or to all
abbrev pub restores : ℕ → ℕ × ℕ → BaseFrame → Bool
restores node place frame = (frame.id == nmt_id) && (is_addressed node frame.bytes
    && is_restored_by (command_of (slice_index_or frame.bytes 0 0)) place)

-- it is delivered at the moment t; a device sends no such frame
abbrev pub is_restored_at : ℕ → Bus → ℕ → ℕ × ℕ → Bool
is_restored_at t s node place =
    option_map_or (λ (slot : Slot). restores node place slot.frame) (ended_slot t s.wire) false

-- THE MARKS SINCE EACH ENTRY LAST TOOK ITS DEFAULT, just before the moment t: one that takes it again has none
unfoldable pub marks_since : Image → ℕ → MarkedEntries
marks_since image zero = no_marks
marks_since image (suc t) = λ node place. if is_restored_at t (bus_at image t) node place then false
    else after_writes (marks_since image t) (writes_at image t (bus_at image t)) node place
