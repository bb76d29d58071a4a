-- What the steps of a node's boot can be.
use Rattle.std.specs.Prelude.{◌≡◌, ℕ, ◌+◌, List, None, Option, Some}
use Rattle.image_parts.specs.Contents.{Image, write_of}
use Rattle.image_parts.specs.declared.part.Part.TheVariants.{Boot}
use Rattle.sdo_client.specs.Client.{after_answer}
use Rattle.sdo_client.specs.declared.client_transfer.ClientTransfer.{ClientTransfer as Transfer}
use Rattle.sdo_client.specs.declared.progress.Progress.{Progress}
use Rattle.sdo_client.specs.declared.progress.Progress.TheVariants as progress
use Rattle.node_boot.specs.Boot.{no_step, request_sent, write_started}
use Rattle.node_boot.specs.declared.boot_stage.BootStage.{BootStage}
use Rattle.node_boot.specs.declared.boot_stage.BootStage.TheVariants.{Unseen, Comparing, Writing, Configured, Failed, Own}
use Rattle.node_boot.specs.declared.boot_step.BootStep.{BootStep}

-- the write of this number is started, or the boot is completed where there is none
abbrev pub StartsWrite : Image → ℕ → ℕ → ℕ → BootStep → Type 0
StartsWrite image deadline node place step = step ≡ write_started deadline place (write_of (image (Boot node place)))

-- a step that leaves the boot at such a stage: it compares, starts the first write, or has failed
abbrev pub ComparesOrWrites : Image → ℕ → ℕ → BootStep → BootStage → Type 0
ComparesOrWrites image deadline node step Unseen = ⊥
ComparesOrWrites image deadline node step (Comparing place expected transfer moment) = Unit {0}
ComparesOrWrites image deadline node step (Writing place transfer moment) = StartsWrite image deadline node 0 step
ComparesOrWrites image deadline node step Configured = StartsWrite image deadline node 0 step
ComparesOrWrites image deadline node step Failed = Unit {0}
ComparesOrWrites image deadline node step Own = ⊥

-- what the progress of the client makes of write j: it is confirmed and the next is started; it goes on by another
-- request; it fails; or it stays
abbrev pub WritesOn : Image → ℕ → ℕ → ℕ → ℕ → Transfer → Option Progress → BootStep → Type 0
WritesOn image deadline old node j transfer None step = step ≡ no_step (Writing j transfer old)
WritesOn image deadline old node j transfer (Some (progress.Ask request)) step =
    step ≡ request_sent (Writing j transfer deadline) request
WritesOn image deadline old node j transfer (Some progress.Written) step =
    StartsWrite image deadline node (j + 1) step
WritesOn image deadline old node j transfer (Some (progress.Read bytes)) step =
    step ≡ no_step (Writing j transfer old)
WritesOn image deadline old node j transfer (Some (progress.Failed abort frame)) step = step.stage ≡ Failed

-- WHAT AN SDO ANSWER MAKES OF A STAGE: nothing where no request is under way
abbrev pub FollowsAnswer : Image → ℕ → ℕ → List ℕ → BootStep → BootStage → Type 0
FollowsAnswer image deadline node answer step Unseen = step ≡ no_step Unseen
FollowsAnswer image deadline node answer step (Comparing place expected transfer old) =
    ComparesOrWrites image deadline node step step.stage
FollowsAnswer image deadline node answer step (Writing j transfer old) =
    WritesOn image deadline old node j (after_answer transfer answer).stage (after_answer transfer answer).progress step
FollowsAnswer image deadline node answer step Configured = step ≡ no_step Configured
FollowsAnswer image deadline node answer step Failed = step ≡ no_step Failed
FollowsAnswer image deadline node answer step Own = step ≡ no_step Own
