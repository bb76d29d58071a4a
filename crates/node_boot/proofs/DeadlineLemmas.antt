-- What comes at a moment gives a boot no deadline before it.
use Rattle.std.proofs.Common.{ℕ, ◌+◌, ◌≤◌, List, Option, Some, None, IfSome}
use Rattle.std.specs.Prelude.{◌==◌}
use Rattle.image_parts.specs.Asking.{Asking, outcome}
use Rattle.sdo_client.specs.Client.{after_answer}
use Rattle.sdo_client.specs.declared.progress.Progress.{Progress}
use Rattle.sdo_client.specs.declared.progress.Progress.TheVariants as progress
use Rattle.sdo_client.specs.declared.client_transfer.ClientTransfer.{ClientTransfer as Transfer}
use Rattle.concise_dcf.specs.declared.write.Write.{Write}
use Rattle.image_parts.specs.Contents.{Content, Image, identity_of, write_of}
use Rattle.image_parts.specs.declared.identity.Identity.{Identity}
use Rattle.image_parts.specs.declared.part.Part.{Part}
use Rattle.image_parts.specs.declared.part.Part.TheVariants.{Expect, Boot}
use Rattle.node_boot.proofs.ChoiceLemmas.{picked}
use Rattle.node_boot.specs.Boot.{deadline_of, write_started, download_configuration}
use Rattle.node_boot.specs.Boot.{comparison_started, compared_next, check_identity, next_compared, boot_nmt_slave}
use Rattle.node_boot.specs.Boot.{after_compare, after_write, is_as_expected, sdo_answer}
use Rattle.node_boot.specs.declared.boot_stage.BootStage.{BootStage}
use Rattle.node_boot.specs.declared.boot_stage.BootStage.TheVariants.{Unseen, Comparing, Writing, Configured, Failed, Own}
use Rattle.node_boot.specs.declared.boot_step.BootStep.{BootStep}

-- the stage has no deadline before t
abbrev pub IsOpenFrom : ℕ → BootStage → Type 0
IsOpenFrom t stage = IfSome (deadline_of stage) (λ d. t ≤ d)

module _ (image : Image) (t deadline node : ℕ) (ahead : t ≤ deadline) where
  abbrev Holds : Asking Part Content BootStep → Type 0
  Holds a = IsOpenFrom t (outcome a image).stage

  written_from : (place : ℕ) (w : Option Write) → IsOpenFrom t (write_started deadline place w).stage
  unfolding write_started
  written_from place None = tt
  written_from place (Some w) = ahead

  download_from : (place : ℕ) → IsOpenFrom t (outcome (download_configuration deadline node place) image).stage
  unfolding download_configuration
  download_from place = written_from place (write_of (image (Boot node place)))

  compared_from : (expected : Identity) (place : ℕ) → IsOpenFrom t (comparison_started deadline expected place).stage
  unfolding comparison_started
  compared_from expected place = ahead

  next_is_from : (expected : Identity) (next : Option ℕ) → Holds (compared_next deadline node expected next)
  next_is_from expected None = download_from 0
  next_is_from expected (Some place) = compared_from expected place

  check_from : (expected : Identity) (place : ℕ)
      → IsOpenFrom t (outcome (check_identity deadline node expected place) image).stage
  unfolding check_identity
  check_from expected place = next_is_from expected (next_compared expected place)

  pub boot_from : IsOpenFrom t (outcome (boot_nmt_slave deadline node) image).stage
  unfolding boot_nmt_slave
  boot_from = check_from (identity_of (image (Expect node))) 0

  compare_from : (old place : ℕ) (expected : Identity) (transfer : Transfer) (p : Option Progress) → t ≤ old
      → Holds (after_compare deadline old node place expected transfer p)
  compare_from old place expected transfer None h = h
  compare_from old place expected transfer (Some (progress.Ask request)) h = ahead
  compare_from old place expected transfer (Some progress.Written) h = h
  compare_from old place expected transfer (Some (progress.Read bytes)) h =
      picked Holds (is_as_expected expected place bytes) _ _ (check_from expected (place + 1)) tt
  compare_from old place expected transfer (Some (progress.Failed abort frame)) h = tt

  write_from : (old place : ℕ) (transfer : Transfer) (p : Option Progress) → t ≤ old
      → Holds (after_write deadline old node place transfer p)
  write_from old place transfer None h = h
  write_from old place transfer (Some (progress.Ask request)) h = ahead
  write_from old place transfer (Some progress.Written) h = download_from (place + 1)
  write_from old place transfer (Some (progress.Read bytes)) h = h
  write_from old place transfer (Some (progress.Failed abort frame)) h = tt

  pub answer_from : (stage : BootStage) (answer : List ℕ) → IsOpenFrom t stage
      → Holds (sdo_answer deadline node stage answer)
  unfolding sdo_answer
  answer_from Unseen answer h = tt
  answer_from (Comparing place expected transfer old) answer h =
      compare_from old place expected (after_answer transfer answer).stage (after_answer transfer answer).progress h
  answer_from (Writing place transfer old) answer h =
      write_from old place (after_answer transfer answer).stage (after_answer transfer answer).progress h
  answer_from Configured answer h = tt
  answer_from Failed answer h = tt
  answer_from Own answer h = tt
