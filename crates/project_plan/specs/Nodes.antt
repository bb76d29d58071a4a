-- The nodes of a sound project, and the messages of its plan that they send and take.
use Rattle.std.specs.Prelude.{◌≡◌, ℕ, Contains, Some}
use Rattle.co_project.specs.Project.{Content}
use Rattle.co_project.specs.Sound.{IsSound}
use Rattle.pdo_choices.specs.declared.clean.Clean.{Clean}
use Rattle.pdo_choices.specs.declared.consumer.Consumer.{Consumer}
use Rattle.pdo_plan.specs.Plan.{clean}
use Rattle.project_plan.specs.Network.{member_at, plan_of_project, Member}

-- a node of a sound project, with its EDS
pub record IsSoundNode (project : Content) (id : ℕ) (m : Member) : Type 0 where
  pub sound : IsSound project
  pub there : member_at project id ≡ Some m

-- a node sends a message that the project's plan finds clean
pub record Sends (project : Content) (id : ℕ) (c : Clean) : Type 0 where
  pub planned : Contains (clean (plan_of_project project)) c
  pub sender : c.message.node ≡ id

-- a node takes one
pub record Takes (project : Content) (id : ℕ) (c : Clean) (k : Consumer) : Type 0 where
  pub planned : Contains (clean (plan_of_project project)) c
  pub consumer : Contains c.consumers k
  pub taker : k.node ≡ id
