use Rattle.project_plan.proofs.NetworkLemmas.{made_for_member}
use Rattle.project_plan.proofs.laws.plans_are_made_for_their_nodes.Goals as goal

pub returns : goal.returns
returns c = made_for_member
