-- The frames of the identifier 100h that wait at the manager are time stamps, at each moment of a run.
use Rattle.std.proofs.Common.{◌≡◌, ℕ, List, refl, arith}
use Rattle.std.specs.Prelude.{Contains}
use Rattle.std.proofs.lemmas.List.Elements.{All-contains}
use Rattle.can_bus.specs.Spans.{bus_at}
use Rattle.can_frame.specs.Frames.{BaseFrame}
use Rattle.can_frame.specs.Identifiers.{time_id}
use Rattle.can_frame.specs.declared.purpose.Purpose.{Purpose}
use Rattle.can_frame.specs.declared.purpose.Purpose.TheVariants.{BootUp, Emergency, Heartbeat, Nmt, Sdo, Sync, Time, Tpdo}
use Rattle.can_frame.specs.declared.waiting.Waiting.{Waiting}
use Rattle.image_parts.specs.Contents.{Image, roster_of}
use Rattle.image_parts.specs.Images.{IsImage}
use Rattle.image_parts.specs.declared.part.Part.TheVariants as part
use Rattle.nmt_boot.specs.Manager.{Manager}
use Rattle.nmt_boot.specs.Stamps.{IsStampBefore}
use Rattle.network_laws.proofs.BeatLemmas.{tells_when_due}
use Rattle.network_laws.proofs.RunLemmas.{run_is_good}
use Rattle.network_laws.specs.Requests.{IsManagersFrame, numbers_of}

-- no other frame of the manager has that identifier
is_time : (number : ℕ) (nodes : List ℕ) (p : Purpose) (frame : BaseFrame) → IsManagersFrame number nodes p frame
    → frame.id ≡ time_id → p ≡ Time
is_time number nodes BootUp frame own e = absurd (omega (arith, own.0.0, e))
is_time number nodes Heartbeat frame own e = absurd (omega (arith, own.0, e))
is_time number nodes (Tpdo k) frame own e = absurd own
is_time number nodes (Sdo node) frame own e = absurd (omega (arith, own.1.1, e))
is_time number nodes Emergency frame own e = absurd own
is_time number nodes Sync frame own e = absurd (omega (arith, own, e))
is_time number nodes Time frame own e = refl
is_time number nodes Nmt frame own e = absurd (omega (arith, own, e))

pub stamps_of_identifier : (image : Image) (t : ℕ) (w : Waiting) → IsImage image
    → Contains (bus_at image t).manager.waiting w → w.frame.id ≡ time_id
    → IsStampBefore (roster_of (image part.Roster)) t w.frame
stamps_of_identifier image t w is there e =
    let m : Manager = (bus_at image t).manager in
    let own = All-contains (λ (v : Waiting). IsManagersFrame m.number (numbers_of m.nodes) v.purpose v.frame) m.waiting w
    (run_is_good image is t).sound.manager_frames.frames there in
    All-contains (λ (v : Waiting). v.purpose ≡ Time → IsStampBefore (roster_of (image part.Roster)) t v.frame) m.waiting w
    (tells_when_due image t) there (is_time m.number (numbers_of m.nodes) w.purpose w.frame own e)
