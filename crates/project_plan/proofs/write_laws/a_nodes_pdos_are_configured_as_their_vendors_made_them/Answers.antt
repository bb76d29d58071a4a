use Rattle.project_plan.proofs.WritesLemmas.{sent_as_made, taken_as_made}
use Rattle.project_plan.proofs.write_laws.a_nodes_pdos_are_configured_as_their_vendors_made_them.Goals as goal

pub returns-clause-sent : goal.returns-clause-sent
returns-clause-sent c = sent_as_made

pub returns-clause-taken : goal.returns-clause-taken
returns-clause-taken c = taken_as_made
