-- The stage of the manager's own node: a boot never leaves a node there, and nothing takes it away from there.
use Rattle.std.proofs.Common.{◌≡◌, ℕ, ◌+◌, true, false, List, Option, Some, None, refl, ap, ◌∙◌}
use Rattle.image_parts.specs.Asking.{outcome}
use Rattle.image_parts.specs.Contents.{Image, write_of}
use Rattle.image_parts.specs.declared.part.Part.TheVariants.{Boot}
use Rattle.sdo_client.specs.Client.{after_answer}
use Rattle.sdo_client.specs.declared.client_transfer.ClientTransfer.{ClientTransfer as Transfer}
use Rattle.sdo_client.specs.declared.progress.Progress.{Progress}
use Rattle.sdo_client.specs.declared.progress.Progress.TheVariants as progress
use Rattle.concise_dcf.specs.declared.write.Write.{Write}
use Rattle.node_boot.specs.Boot.{boot_nmt_slave, is_timed_out, sdo_answer, sdo_time_out, write_started}
use Rattle.node_boot.specs.declared.boot_stage.BootStage.{BootStage}
use Rattle.node_boot.specs.declared.boot_stage.BootStage.TheVariants.{Unseen, Comparing, Writing, Configured, Failed, Own}
use Rattle.node_boot.specs.declared.boot_step.BootStep.{BootStep}
use Rattle.manager_nodes.specs.Table.{is_own}
use Rattle.network_laws.proofs.StepLemmas.{answer_followed, boot_begins}
use Rattle.network_laws.specs.Steps.{ComparesOrWrites, FollowsAnswer, StartsWrite, WritesOn}

abbrev Leaves : BootStep → Type 0
Leaves step = is_own step.stage ≡ false

-- ---- a boot, and a time-out

module _ (image : Image) (deadline node : ℕ) where
  started : (j : ℕ) (w : Option Write) → Leaves (write_started deadline j w)
  unfolding write_started
  started j None = refl
  started j (Some w) = refl

  starts : (j : ℕ) (step : BootStep) → StartsWrite image deadline node j step → Leaves step
  starts j step e = ap (λ (s : BootStep). is_own s.stage) e ∙ started j (write_of (image (Boot node j)))

  compares : (step : BootStep) (s : BootStage) → ComparesOrWrites image deadline node step s → is_own s ≡ false
  compares step Unseen c = absurd c
  compares step (Comparing place expected transfer moment) c = refl
  compares step (Writing place transfer moment) c = refl
  compares step Configured c = refl
  compares step Failed c = refl
  compares step Own c = absurd c

  pub boots_other : is_own (outcome (boot_nmt_slave deadline node) image).stage ≡ false
  boots_other =
      let step : BootStep = outcome (boot_nmt_slave deadline node) image in
      compares step step.stage (boot_begins image deadline node)

  -- ---- an SDO answer

  writes : (old j : ℕ) (transfer : Transfer) (p : Option Progress) (step : BootStep)
      → WritesOn image deadline old node j transfer p step → Leaves step
  writes old j transfer None step f = ap (λ (s : BootStep). is_own s.stage) f
  writes old j transfer (Some (progress.Ask request)) step f = ap (λ (s : BootStep). is_own s.stage) f
  writes old j transfer (Some progress.Written) step f = starts (j + 1) step f
  writes old j transfer (Some (progress.Read bytes)) step f = ap (λ (s : BootStep). is_own s.stage) f
  writes old j transfer (Some (progress.Failed abort frame)) step f = ap is_own f

  followed : (stage : BootStage) (answer : List ℕ) (step : BootStep)
      → FollowsAnswer image deadline node answer step stage → is_own step.stage ≡ is_own stage
  followed Unseen answer step f = ap (λ (s : BootStep). is_own s.stage) f
  followed (Comparing place expected transfer old) answer step f = compares step step.stage f
  followed (Writing j transfer old) answer step f =
      writes old j (after_answer transfer answer).stage (after_answer transfer answer).progress step f
  followed Configured answer step f = ap (λ (s : BootStep). is_own s.stage) f
  followed Failed answer step f = ap (λ (s : BootStep). is_own s.stage) f
  followed Own answer step f = ap (λ (s : BootStep). is_own s.stage) f

  pub answered_still : (stage : BootStage) (answer : List ℕ)
      → is_own (outcome (sdo_answer deadline node stage answer) image).stage ≡ is_own stage
  answered_still stage answer =
      followed stage answer (outcome (sdo_answer deadline node stage answer) image)
      (answer_followed image deadline node stage answer)

  -- and asks the manager's own node for nothing
  asks : (stage : BootStage) (answer : List ℕ) (step : BootStep) → FollowsAnswer image deadline node answer step stage
      → is_own stage ≡ true → step.request ≡ None
  asks Unseen answer step f e = absurd cc
  asks (Comparing place expected transfer old) answer step f e = absurd cc
  asks (Writing j transfer old) answer step f e = absurd cc
  asks Configured answer step f e = absurd cc
  asks Failed answer step f e = absurd cc
  asks Own answer step f e = ap (λ (s : BootStep). s.request) f

  pub own_unasked : (stage : BootStage) (answer : List ℕ) → is_own stage ≡ true
      → (outcome (sdo_answer deadline node stage answer) image).request ≡ None
  own_unasked stage answer e =
      asks stage answer (outcome (sdo_answer deadline node stage answer) image)
      (answer_followed image deadline node stage answer) e

-- it has no deadline
pub timed_other : (t : ℕ) (stage : BootStage) → is_timed_out t stage ≡ true → is_own stage ≡ false
timed_other t Unseen e = refl
timed_other t (Comparing place expected transfer deadline) e = refl
timed_other t (Writing place transfer deadline) e = refl
timed_other t Configured e = refl
timed_other t Failed e = refl
timed_other t Own e = absurd cc

pub failed_other : (stage : BootStage) → is_own (sdo_time_out stage).stage ≡ false
unfolding sdo_time_out
failed_other stage = refl
