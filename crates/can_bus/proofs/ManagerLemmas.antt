-- What the manager does with a delivered frame and then by its timers.
use Rattle.std.proofs.Common.{◌≡◌, ℕ, List, ◌++◌, Option, ◌∙◌, ap, sym, append_assoc}
use Rattle.std.proofs.lemmas.List.{append-nil}
use Rattle.image_parts.specs.Asking.{Answer, Seen, outcome, reads, after_reads}
use Rattle.image_parts.proofs.QuestionLemmas.{outcome_bind, reads_bind, followed_last}
use Rattle.image_parts.specs.Contents.{Content, Image}
use Rattle.image_parts.specs.declared.part.Part.{Part}
use Rattle.nmt_boot.specs.Manager.{Manager, timers}
use Rattle.node_boot.specs.declared.note.Note.{Note}
use Rattle.can_bus.specs.Bus.{manager_after_delivery, manager_after_slot, manager_after_timers}
use Rattle.can_bus.specs.declared.slot.Slot.{Slot}

module _ (t : ℕ) (slot : Option Slot) (m : Manager) where
  pub outcome_managed : (image : Image) → outcome (manager_after_delivery t slot m) image
      ≡ manager_after_timers t (outcome (manager_after_slot t slot m) image)
  unfolding manager_after_delivery
  outcome_managed image = outcome_bind (manager_after_slot t slot m) (λ r. Answer (manager_after_timers t r)) image

  pub reads_managed : (image : Image) → reads (manager_after_delivery t slot m) image
      ≡ reads (manager_after_slot t slot m) image
  unfolding manager_after_delivery
  reads_managed image = reads_bind (manager_after_slot t slot m) (λ r. Answer (manager_after_timers t r)) image
      ∙ append-nil _

  pub followed_managed : (seen : Seen Part Content)
      → after_reads (manager_after_delivery t slot m) seen ≡ after_reads (manager_after_slot t slot m) seen
  unfolding manager_after_delivery
  followed_managed seen = followed_last (manager_after_slot t slot m) (manager_after_timers t) seen

  -- first what the frame brings about, and then the timers
  pub told_managed : (image : Image) (before : List Note)
      → (before ++ (outcome (manager_after_slot t slot m) image).1)
      ++ (timers t (outcome (manager_after_slot t slot m) image).0).1
      ≡ before ++ (outcome (manager_after_delivery t slot m) image).1
  told_managed image before =
      append_assoc before _ _ ∙ ap (λ (r : Manager × List Note). before ++ r.1) (sym (outcome_managed image))

pub ruleset managed_laws = (outcome_managed, reads_managed, followed_managed, told_managed)
