-- An event of one node, as the rule of that node and what it does to the manager.
use Rattle.std.proofs.Common.{◌≡◌, ℕ, ◌+◌, List, ◌++◌, refl, ◌∙◌, append_assoc}
use Rattle.std.proofs.lemmas.List.{append-nil}
use Rattle.image_parts.specs.Asking.{Asking, Answer, Seen, outcome, reads, bind}
use Rattle.image_parts.specs.Record.{IsAsked}
use Rattle.image_parts.proofs.QuestionLemmas.{outcome_bind, reads_bind}
use Rattle.image_parts.proofs.RecordLemmas.{asked_last}
use Rattle.image_parts.specs.Contents.{Content, Image}
use Rattle.image_parts.specs.declared.part.Part.{Part}
use Rattle.node_boot.specs.Boot.{boot_nmt_slave, sdo_answer}
use Rattle.nmt_boot.specs.Manager.{Manager, after_step, after_boot_start, after_boot_at, after_answer_at}
use Rattle.manager_nodes.specs.Table.{node_at}
use Rattle.manager_nodes.specs.Table.{with_stage, sdo_frames, notes_of, note_of_loss}
use Rattle.nmt_boot.specs.Startup.{Startup, start_frames, startup_after}
use Rattle.can_frame.specs.WaitingFrames.{without_unwanted}
use Rattle.can_frame.specs.declared.unwanted.Unwanted.TheVariants.{SdoOf}
use Rattle.manager_nodes.specs.Sending.{sending_of}
use Rattle.can_frame.specs.declared.waiting.Waiting.{Waiting}
use Rattle.manager_nodes.specs.declared.sent.Sent.{Sent}
use Rattle.manager_nodes.specs.declared.booting.Booting.{Booting}
use Rattle.node_boot.specs.declared.note.Note.{Note}

module _ {A B : Type 0} (m : Asking Part Content A) (f : A → B) where
  outcome_then : (image : Image) → outcome (bind m (λ a. Answer (f a))) image ≡ f (outcome m image)
  outcome_then image = outcome_bind m (λ a. Answer (f a)) image

  reads_then : (image : Image) → reads (bind m (λ a. Answer (f a))) image ≡ reads m image
  reads_then image = reads_bind m (λ a. Answer (f a)) image ∙ append-nil (reads m image)

module _ (t i : ℕ) (m : Manager) where
  pub boots_outcome : (image : Image) → outcome (after_boot_at t i m) image
      ≡ after_boot_start i m (outcome (boot_nmt_slave (t + m.timeout) (node_at m.nodes i).number) image)
  unfolding after_boot_at
  boots_outcome image = outcome_then (boot_nmt_slave (t + m.timeout) (node_at m.nodes i).number)
      (after_boot_start i m) image

  pub boots_reads : (image : Image) → reads (after_boot_at t i m) image
      ≡ reads (boot_nmt_slave (t + m.timeout) (node_at m.nodes i).number) image
  unfolding after_boot_at
  boots_reads image = reads_then (boot_nmt_slave (t + m.timeout) (node_at m.nodes i).number)
      (after_boot_start i m) image

  pub boots_asked : (old new : Seen Part Content) (asks_old asks_new : ℕ)
      → IsAsked (boot_nmt_slave (t + m.timeout) (node_at m.nodes i).number) old new asks_old asks_new
      → IsAsked (after_boot_at t i m) old new asks_old asks_new
  unfolding after_boot_at
  boots_asked = asked_last (boot_nmt_slave (t + m.timeout) (node_at m.nodes i).number) (after_boot_start i m)

module _ (t : ℕ) (answer : List ℕ) (i : ℕ) (m : Manager) where
  pub answered_outcome : (image : Image) → outcome (after_answer_at t answer i m) image
      ≡ after_step i (outcome (sdo_answer (t + m.timeout)
      (node_at m.nodes i).number (node_at m.nodes i).stage answer) image) m
  unfolding after_answer_at
  answered_outcome image = outcome_then (sdo_answer (t + m.timeout)
      (node_at m.nodes i).number (node_at m.nodes i).stage answer) (λ step. after_step i step m) image

  pub answered_reads : (image : Image) → reads (after_answer_at t answer i m) image
      ≡ reads (sdo_answer (t + m.timeout) (node_at m.nodes i).number (node_at m.nodes i).stage answer) image
  unfolding after_answer_at
  answered_reads image = reads_then (sdo_answer (t + m.timeout)
      (node_at m.nodes i).number (node_at m.nodes i).stage answer) (λ step. after_step i step m) image

  pub answered_asked : (old new : Seen Part Content) (asks_old asks_new : ℕ)
      → IsAsked (sdo_answer (t + m.timeout) (node_at m.nodes i).number (node_at m.nodes i).stage answer) old new
      asks_old asks_new
      → IsAsked (after_answer_at t answer i m) old new asks_old asks_new
  unfolding after_answer_at
  answered_asked = asked_last (sdo_answer (t + m.timeout)
      (node_at m.nodes i).number (node_at m.nodes i).stage answer) (λ step. after_step i step m)

-- what the calls left, put together
module _ (t i : ℕ) (m : Manager) (image : Image) (sent : Sent) (startup : Startup) (nodes : List Booting)
    (waiting : List Waiting) where
  pub boots_state :
      nodes ≡ with_stage m.nodes i (outcome (boot_nmt_slave (t + m.timeout) (node_at m.nodes i).number) image).stage →
      sent ≡ sending_of (outcome (boot_nmt_slave (t + m.timeout) (node_at m.nodes i).number) image) →
      waiting ≡ (without_unwanted (SdoOf (node_at m.nodes i).number) m.waiting
      ++ sdo_frames (node_at m.nodes i).number sent.request)
      ++ start_frames m.startup nodes (node_at m.nodes i).number sent.note →
      startup ≡ startup_after m.startup nodes sent.note →
      record {
        spent = m.spent;
        number = m.number;
        timeout = m.timeout;
        periodic = m.periodic;
        startup = startup;
        nodes = nodes;
        waiting = waiting;
      }
      ≡ (outcome (after_boot_at t i m) image).0
  boots_state e f h k = rw (boots_outcome t i m image, k, h, e, f) refl

  pub boots_notes : (before after between : List Note) →
      sent ≡ sending_of (outcome (boot_nmt_slave (t + m.timeout) (node_at m.nodes i).number) image) →
      between ≡ before ++ notes_of (node_at m.nodes i).number (note_of_loss (node_at m.nodes i).stage) →
      after ≡ between ++ notes_of (node_at m.nodes i).number sent.note →
      after ≡ before ++ (outcome (after_boot_at t i m) image).1
  boots_notes before after between f h k = rw (boots_outcome t i m image, k, h, f) (append_assoc before _ _)

module _ (t : ℕ) (answer : List ℕ) (i : ℕ) (m : Manager) (image : Image) (sent : Sent) (startup : Startup)
    (nodes : List Booting) (waiting : List Waiting) where
  pub answered_state :
      nodes ≡ with_stage m.nodes i (outcome (sdo_answer (t + m.timeout)
      (node_at m.nodes i).number (node_at m.nodes i).stage answer) image).stage →
      sent ≡ sending_of (outcome (sdo_answer (t + m.timeout)
      (node_at m.nodes i).number (node_at m.nodes i).stage answer) image) →
      waiting ≡ (m.waiting ++ sdo_frames (node_at m.nodes i).number sent.request)
      ++ start_frames m.startup nodes (node_at m.nodes i).number sent.note →
      startup ≡ startup_after m.startup nodes sent.note →
      record {
        spent = m.spent;
        number = m.number;
        timeout = m.timeout;
        periodic = m.periodic;
        startup = startup;
        nodes = nodes;
        waiting = waiting;
      }
      ≡ (outcome (after_answer_at t answer i m) image).0
  answered_state e f h k = rw (answered_outcome t answer i m image, k, h, e, f) refl
