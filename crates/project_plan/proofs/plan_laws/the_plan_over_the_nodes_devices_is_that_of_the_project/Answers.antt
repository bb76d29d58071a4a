use Rattle.project_plan.proofs.PlanLemmas.{planned_over_members}
use Rattle.project_plan.proofs.plan_laws.the_plan_over_the_nodes_devices_is_that_of_the_project.Goals as goal

pub returns : goal.returns
returns c = planned_over_members
