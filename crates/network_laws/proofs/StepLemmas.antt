-- What the steps of a node's boot can be.
use Rattle.std.proofs.Common.{◌≡◌, ℕ, ◌+◌, Bool, true, false, List, Option, Some, None, refl}
use Rattle.std.specs.Prelude.{if◌then◌else◌}
use Rattle.image_parts.specs.Asking.{Answer, outcome}
use Rattle.image_parts.specs.Contents.{Image, identity_of, write_of}
use Rattle.image_parts.specs.declared.identity.Identity.{Identity}
use Rattle.image_parts.specs.declared.part.Part.TheVariants.{Boot, Expect}
use Rattle.sdo_client.specs.Client.{after_answer}
use Rattle.sdo_client.specs.declared.client_transfer.ClientTransfer.{ClientTransfer as Transfer}
use Rattle.sdo_client.specs.declared.progress.Progress.{Progress}
use Rattle.sdo_client.specs.declared.progress.Progress.TheVariants as progress
use Rattle.concise_dcf.specs.declared.write.Write.{Write}
use Rattle.node_boot.specs.Boot.{after_compare, after_write, boot_nmt_slave, check_identity, compared_next}
use Rattle.node_boot.specs.Boot.{boot_failed, comparison_started, download_configuration, is_as_expected, next_compared}
use Rattle.node_boot.specs.Boot.{sdo_answer, write_started}
use Rattle.node_boot.specs.declared.note_kind.NoteKind.TheVariants as kind
use Rattle.node_boot.specs.declared.boot_stage.BootStage.{BootStage}
use Rattle.node_boot.specs.declared.boot_stage.BootStage.TheVariants.{Unseen, Comparing, Writing, Configured, Failed, Own}
use Rattle.node_boot.specs.declared.boot_step.BootStep.{BootStep}
use Rattle.network_laws.specs.Steps.{ComparesOrWrites, FollowsAnswer, StartsWrite, WritesOn}

module _ (image : Image) (deadline node : ℕ) where
  abbrev Steps : BootStep → Type 0
  Steps step = ComparesOrWrites image deadline node step step.stage

  starts : (place : ℕ) → StartsWrite image deadline node place
      (outcome (download_configuration deadline node place) image)
  unfolding download_configuration
  starts place = refl

  first : (w : Option Write) → write_of (image (Boot node 0)) ≡ w → Steps (write_started deadline 0 w)
  unfolding write_started
  first None e = rw e refl
  first (Some w) e = rw e refl

  first_starts : Steps (outcome (download_configuration deadline node 0) image)
  unfolding download_configuration
  first_starts = first (write_of (image (Boot node 0))) refl

  compares : (expected : Identity) (place : ℕ) → Steps (comparison_started deadline expected place)
  unfolding comparison_started
  compares expected place = tt

  checks : (expected : Identity) (place : ℕ) → Steps (outcome (check_identity deadline node expected place) image)
  unfolding check_identity
  checks expected place = by (next_compared expected place)
    where
      by : (next : Option ℕ) → Steps (outcome (compared_next deadline node expected next) image)
      by None = first_starts
      by (Some left) = compares expected left

  pub boot_begins : Steps (outcome (boot_nmt_slave deadline node) image)
  unfolding boot_nmt_slave
  boot_begins = checks (identity_of (image (Expect node))) 0

  compared : (old place : ℕ) (expected : Identity) (left : Transfer) (p : Option Progress)
      → Steps (outcome (after_compare deadline old node place expected left p) image)
  compared old place expected left None = tt
  compared old place expected left (Some (progress.Ask request)) = tt
  compared old place expected left (Some progress.Written) = tt
  compared old place expected left (Some (progress.Read bytes)) = by (is_as_expected expected place bytes)
    where
      by : (b : Bool) → Steps (outcome (if b then check_identity deadline node expected (place + 1)
          else Answer (boot_failed kind.Difference None)) image)
      by true = checks expected (place + 1)
      by false = tt
  compared old place expected left (Some (progress.Failed abort frame)) = tt

  written : (old j : ℕ) (left : Transfer) (p : Option Progress)
      → WritesOn image deadline old node j left p (outcome (after_write deadline old node j left p) image)
  written old j left None = refl
  written old j left (Some (progress.Ask request)) = refl
  written old j left (Some progress.Written) = starts (j + 1)
  written old j left (Some (progress.Read bytes)) = refl
  written old j left (Some (progress.Failed abort frame)) = refl

  pub answer_followed : (stage : BootStage) (answer : List ℕ)
      → FollowsAnswer image deadline node answer (outcome (sdo_answer deadline node stage answer) image) stage
  unfolding sdo_answer
  answer_followed Unseen answer = refl
  answer_followed (Comparing place expected transfer old) answer =
      compared old place expected (after_answer transfer answer).stage (after_answer transfer answer).progress
  answer_followed (Writing j transfer old) answer =
      written old j (after_answer transfer answer).stage (after_answer transfer answer).progress
  answer_followed Configured answer = refl
  answer_followed Failed answer = refl
  answer_followed Own answer = refl
