use Rattle.project_plan.proofs.WritesLemmas.{whose, alone}
use Rattle.project_plan.proofs.write_laws.the_writes_to_pdos_are_those_of_the_nodes_messages.Goals as goal

pub returns-clause-of_messages : goal.returns-clause-of_messages
returns-clause-of_messages c = whose

pub returns-clause-alone : goal.returns-clause-alone
returns-clause-alone c = alone
