-- What an abort of the client leaves, whatever entries the device has.
use Rattle.std.proofs.Common.{◌≡◌, ℕ, false, List, None, append-nil, refl, ap, ◌∙◌}
use Rattle.image_parts.specs.Asking.{outcome}
use Rattle.can_frame.specs.declared.waiting.Waiting.{Waiting}
use Rattle.co_dict.specs.Shapes.{Shaped}
use Rattle.co_dict.specs.Values.{Values}
use Rattle.image_parts.specs.Contents.{Image, shape_of}
use Rattle.image_parts.specs.declared.part.Part.TheVariants.{Shape}
use Rattle.co_sdo.specs.Frames.{command}
use Rattle.co_sdo.specs.Server.{AfterRequest, server_answer}
use Rattle.co_sdo.specs.declared.transfer.Transfer.{Transfer}
use Rattle.co_sdo.specs.declared.transfer.Transfer.TheVariants.{Idle}
use Rattle.co_device.specs.Device.{Device, after_request, is_in, after_sdo_request}
use Rattle.cia301.specs.declared.nmt_state.NmtState.TheVariants.{Stopped}

abort_answered : (shape : Shaped) (values : Values) (transfer : Transfer) (request : List ℕ) → command request ≡ 0x80
    → server_answer shape values transfer request
    ≡ record { answer = None; values = values; transfer = Idle; wrote = None }
unfolding server_answer
abort_answered shape values transfer request e = rw e refl

pub abort_leaves : (image : Image) (t : ℕ) (request : List ℕ) (d : Device) → is_in Stopped d ≡ false
    → command request ≡ 0x80
    → outcome (after_sdo_request t request d) image ≡ record d { transfer = Idle }
unfolding after_sdo_request
abort_leaves image t request d on e =
    let shape : Shaped = shape_of (image (Shape d.number)) in
    rw on
    (ap (λ (s : AfterRequest). after_request t shape s d) (abort_answered shape d.values d.transfer request e)
    ∙ ap (λ (frames : List Waiting). record d { transfer = Idle; waiting = frames }) (append-nil d.waiting))
