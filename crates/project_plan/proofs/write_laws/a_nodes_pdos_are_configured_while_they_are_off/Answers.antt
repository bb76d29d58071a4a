use Rattle.project_plan.proofs.WritesLemmas.{sent_configured, taken_configured}
use Rattle.project_plan.proofs.write_laws.a_nodes_pdos_are_configured_while_they_are_off.Goals as goal

pub returns-clause-sent : goal.returns-clause-sent
returns-clause-sent c = sent_configured

pub returns-clause-taken : goal.returns-clause-taken
returns-clause-taken c = taken_configured
