-- What a frame is to a device (CiA 301).
use Rattle.std.specs.Prelude.{ℕ, ◌-◌, ◌==◌, ◌&&◌, ◌||◌, Bool, List, length, slice_index_or, if◌then◌else◌}
use Rattle.base.specs.Ranges.{is_between}
use Rattle.can_frame.specs.Frames.{BaseFrame}
use Rattle.can_frame.specs.Identifiers.{error_control_id, nmt_id, sdo_request_id}
use Rattle.device_objects.specs.declared.reception.Reception.{Reception}
use Rattle.device_objects.specs.declared.reception.Reception.TheVariants.{Nothing, NmtService, Sync, SdoRequest}
use Rattle.device_objects.specs.declared.reception.Reception.TheVariants.{ErrorControl, Pdo}

-- a message of two bytes, the second this node's number or 0 for all
abbrev pub is_addressed : ℕ → List ℕ → Bool
is_addressed number bytes = (length bytes == 2)
    && ((slice_index_or bytes 1 0 == 0) || (slice_index_or bytes 1 0 == number))

-- a message of the network management: its first byte tells the service
abbrev pub nmt_reception : ℕ → List ℕ → Reception
nmt_reception number bytes = if is_addressed number bytes then NmtService (slice_index_or bytes 0 0) else Nothing

-- one byte of a node's error control identifier, 701h to 77Fh
abbrev pub is_error_control : BaseFrame → Bool
is_error_control frame = is_between 0x701 0x77F frame.id && (length frame.bytes == 1)

-- an error control message of another node; none of its own number, which the manager sends where it runs in the device
abbrev pub error_control_reception : ℕ → ℕ → Reception
error_control_reception number producer = if producer == number then Nothing else ErrorControl producer

-- WHAT A FRAME IS TO A DEVICE WITH POWER, of this number and with this identifier of SYNC, by the first that fits
unfoldable pub reception_with_power : ℕ → ℕ → BaseFrame → Reception
reception_with_power number sync frame =
    if frame.id == nmt_id then nmt_reception number frame.bytes
    else if frame.id == sync then Sync
    else if (frame.id == sdo_request_id number) && (length frame.bytes == 8) then SdoRequest
    else if is_error_control frame then error_control_reception number (frame.id - error_control_id 0)
    else Pdo
