-- The laws of the crates below, as lemmas.
use Rattle.std.specs.Prelude.{◌≡◌, ◌⊎◌, ℕ, Bool, false, List, [], Some, remove}
use Rattle.image_parts.specs.Asking.{outcome}
use Rattle.can_frame.specs.Frames.{BaseFrame}
use Rattle.co_device.specs.Device.{Device, after_instant, after_power, after_set, without_power}
use Rattle.co_device.specs.Receiving.{after_frame}
use Rattle.co_dict.specs.Shapes.{Shaped}
use Rattle.co_dict.specs.Values.{Values}
use Rattle.image_parts.specs.Contents.{Image}
use Rattle.co_sdo.specs.Server.{server_answer}
use Rattle.co_sdo.specs.declared.transfer.Transfer.{Transfer as opened}
use Rattle.co_sdo.specs.declared.transfer.Transfer.TheVariants as server
use Rattle.sdo_client.specs.Client.{download_start}
use Rattle.sdo_client.specs.declared.client_transfer.ClientTransfer.{ClientTransfer as awaiting}
use Rattle.network_laws.proofs.OwnLaws as own
use Rattle.network_laws.specs.Own.{HasOwnFrames}
use Rattle.network_laws.specs.States.{HasBooted}
use Rattle.network_laws.proofs.FrameWrites.{frame_in_ways, frame_of, power_in_ways, set_of}
use Rattle.network_laws.proofs.InstantWrites.{instant_left}
use Rattle.network_laws.proofs.LeaveLemmas.{set_left}
use Rattle.network_laws.specs.Leaves.{LeavesServer, ServesRequest}
use Rattle.network_laws.specs.Writes.{writes_of_frame, writes_of_set}
use Rattle.network_laws.specs.Written.{AreOf}
use Rattle.network_laws.proofs.RequestLaws.{dropped, request_by_request, started}
use Rattle.network_laws.specs.Downloads.{IsAnswered, IsUnderWay}

pub download_starts : (place : ℕ × ℕ) (value : List ℕ) (transfer : opened)
    → IsUnderWay place value (download_start place value).1 transfer (download_start place value).0
download_starts = started

pub download_dropped : (place : ℕ × ℕ) (value : List ℕ) (stage : awaiting) (transfer : opened) (request : List ℕ)
    → IsUnderWay place value stage transfer request → IsUnderWay place value stage server.Idle request
download_dropped = dropped

pub download_answered : (shape : Shaped) (values : Values) (place : ℕ × ℕ) (value : List ℕ) (stage : awaiting)
    (transfer : opened) (request answer : List ℕ)
    → IsUnderWay place value stage transfer request
    → (server_answer shape values transfer request).answer ≡ Some answer
    → IsAnswered place value stage values (server_answer shape values transfer request) answer
download_answered = request_by_request

pub frame_writes_own : (image : Image) (t : ℕ) (frame : BaseFrame) (d : Device)
    → AreOf d.number (writes_of_frame image t frame d)
frame_writes_own = frame_of

pub set_writes_own : (place : ℕ × ℕ) (bytes : List ℕ) (d : Device) → AreOf d.number (writes_of_set place bytes d)
set_writes_own = set_of

pub set_leaves : (t : ℕ) (place : ℕ × ℕ) (bytes : List ℕ) (d : Device)
    → LeavesServer (writes_of_set place bytes d) d (after_set t place bytes d)
set_leaves = set_left

pub instant_leaves : (t : ℕ) (d : Device) → LeavesServer [] d (after_instant t d)
instant_leaves = instant_left

pub frame_does : (image : Image) (t : ℕ) (frame : BaseFrame) (d : Device)
    → (HasBooted d.number (outcome (after_frame t frame d) image) × (writes_of_frame image t frame d ≡ []))
    ⊎ (ServesRequest image frame (writes_of_frame image t frame d) d (outcome (after_frame t frame d) image)
    ⊎ LeavesServer (writes_of_frame image t frame d) d (outcome (after_frame t frame d) image))
frame_does = λ image t frame d. frame_in_ways image t frame d

pub switch_does : (image : Image) (t : ℕ) (on : Bool) (d : Device)
    → HasBooted d.number (outcome (after_power on t d) image)
    ⊎ ((outcome (after_power on t d) image ≡ d) ⊎ ((outcome (after_power on t d) image).has_power ≡ false))
switch_does = power_in_ways

pub dark_owns : (spent : Bool) (number : ℕ) → HasOwnFrames (without_power spent number)
dark_owns = own.dark_owns

pub power_owns : (image : Image) (t : ℕ) (on : Bool) (d : Device) → HasOwnFrames d
    → HasOwnFrames (outcome (after_power on t d) image)
power_owns = λ image t on d h. own.power_owns image t d on h

pub set_owns : (t : ℕ) (place : ℕ × ℕ) (bytes : List ℕ) (d : Device) → HasOwnFrames d
    → HasOwnFrames (after_set t place bytes d)
set_owns = own.set_owns

pub frame_owns : (image : Image) (t : ℕ) (frame : BaseFrame) (d : Device) → HasOwnFrames d
    → HasOwnFrames (outcome (after_frame t frame d) image)
frame_owns = λ image t frame d h. own.frame_owns t image frame d h

pub instant_owns : (t : ℕ) (d : Device) → HasOwnFrames d → HasOwnFrames (after_instant t d)
instant_owns = own.instant_owns

pub sent_owns : (place : ℕ) (d : Device) → HasOwnFrames d → HasOwnFrames (record d { waiting = remove d.waiting place })
sent_owns = own.sent_owns
