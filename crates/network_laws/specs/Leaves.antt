-- What a rule of a device leaves of its entries and of its SDO server.
use Rattle.std.specs.Prelude.{◌≡◌, ◌⊎◌, ℕ, List, [], ◌++◌, filter}
use Rattle.can_frame.specs.Frames.{BaseFrame}
use Rattle.can_frame.specs.Identifiers.{sdo_request_id}
use Rattle.can_frame.specs.WaitingFrames.{is_unwanted, waits_for}
use Rattle.can_frame.specs.declared.purpose.Purpose.TheVariants.{BootUp}
use Rattle.can_frame.specs.declared.unwanted.Unwanted.TheVariants.{Sdos}
use Rattle.can_frame.specs.declared.waiting.Waiting.{Waiting}
use Rattle.co_device.specs.Device.{Device, answer_frames}
use Rattle.image_parts.specs.Contents.{Image, shape_of}
use Rattle.image_parts.specs.declared.part.Part.TheVariants.{Shape}
use Rattle.co_sdo.specs.Server.{AfterRequest, server_answer}
use Rattle.co_sdo.specs.declared.transfer.Transfer.TheVariants.{Idle}
use Rattle.network_laws.specs.Written.{AgreeButRegister, AreStored, NoneBySdo, Written}
use Rattle.network_laws.specs.Writes.{writes_of_answer}

-- the answers of the SDO server that wait at a device
unfoldable pub answers_of : List Waiting → List Waiting
answers_of frames = filter (λ w. is_unwanted Sdos w.purpose) frames

-- THE SDO SERVER HAS NO PART IN IT: no write is by SDO, the values are those before with the writes stored, the open
-- transfer stays or is dropped, the answers that wait stay or are dropped, and a boot-up message waits if one did
pub record LeavesServer (writes : List Written) (d e : Device) : Type 0 where
  pub has_power : e.has_power ≡ d.has_power
  pub values : AreStored writes d.values e.values
  pub by_others : NoneBySdo writes
  pub transfer : (e.transfer ≡ d.transfer) ⊎ (e.transfer ≡ Idle)
  pub answers : (answers_of e.waiting ≡ answers_of d.waiting) ⊎ (answers_of e.waiting ≡ [])
  pub boot_up : waits_for BootUp e.waiting ≡ waits_for BootUp d.waiting

-- what the SDO server of the device does with a request
abbrev pub answer_to_request : Image → List ℕ → Device → AfterRequest
answer_to_request image request d = server_answer (shape_of (image (Shape d.number))) d.values d.transfer request

-- THE SDO SERVER TAKES THE FRAME: it is a request to the device; the write that the server tells is the only one, and
-- is stored; its values and its transfer stand in the device, and its answer waits behind what waited
pub record ServesRequest (image : Image) (frame : BaseFrame) (writes : List Written) (d e : Device) : Type 0 where
  pub is_request : frame.id ≡ sdo_request_id d.number
  pub has_power : e.has_power ≡ d.has_power
  pub written : writes ≡ writes_of_answer d.number (answer_to_request image frame.bytes d)
  pub stored : AreStored writes d.values e.values
  pub values : AgreeButRegister (answer_to_request image frame.bytes d).values e.values
  pub transfer : e.transfer ≡ (answer_to_request image frame.bytes d).transfer
  pub waits : e.waiting ≡ d.waiting ++ answer_frames d.number (answer_to_request image frame.bytes d).answer
