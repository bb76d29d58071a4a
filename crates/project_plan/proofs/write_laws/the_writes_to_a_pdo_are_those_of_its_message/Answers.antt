use Rattle.project_plan.proofs.WritesLemmas.{sent_there, taken_there}
use Rattle.project_plan.proofs.write_laws.the_writes_to_a_pdo_are_those_of_its_message.Goals as goal

pub returns-clause-sent : goal.returns-clause-sent
returns-clause-sent c = sent_there

pub returns-clause-taken : goal.returns-clause-taken
returns-clause-taken c = taken_there
