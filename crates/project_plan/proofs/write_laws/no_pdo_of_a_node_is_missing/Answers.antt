use Rattle.project_plan.proofs.WritesLemmas.{sent_is_there, taken_is_there}
use Rattle.project_plan.proofs.write_laws.no_pdo_of_a_node_is_missing.Goals as goal

pub returns-clause-sent : goal.returns-clause-sent
returns-clause-sent c = sent_is_there

pub returns-clause-taken : goal.returns-clause-taken
returns-clause-taken c = taken_is_there
