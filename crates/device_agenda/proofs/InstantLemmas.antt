-- What a device does in an instant in which it is told something.
use Rattle.std.proofs.Common.{◌≡◌, ℕ, Some, sym}
use Rattle.image_parts.specs.Asking.{Answer, Seen, outcome}
use Rattle.image_parts.specs.Record.{IsAsked}
use Rattle.image_parts.proofs.QuestionLemmas.{outcome_bind}
use Rattle.image_parts.proofs.RecordLemmas.{asked_last}
use Rattle.image_parts.specs.Contents.{Content, Image}
use Rattle.image_parts.specs.declared.part.Part.{Part}
use Rattle.co_device.specs.Device.{Device, after_instant}
use Rattle.device_agenda.specs.Agenda.{at_instant, hears}
use Rattle.device_agenda.specs.Delivered.{Delivered}

module _ (t : ℕ) (delivered : Delivered) (d : Device) where
  pub told_state : (image : Image) → after_instant t (outcome (hears t delivered d) image)
      ≡ outcome (at_instant t (Some delivered) d) image
  unfolding at_instant
  told_state image = sym (outcome_bind (hears t delivered d) (λ heard. Answer (after_instant t heard)) image)

  pub told_asked : (old new : Seen Part Content) (x y : ℕ) → IsAsked (hears t delivered d) old new x y
      → IsAsked (at_instant t (Some delivered) d) old new x y
  unfolding at_instant
  told_asked old new x y = asked_last (hears t delivered d) (after_instant t) old new x y
