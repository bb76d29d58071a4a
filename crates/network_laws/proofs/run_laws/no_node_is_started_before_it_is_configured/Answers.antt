use Rattle.network_laws.proofs.AheadLemmas.{run_ends, sent_waited}
use Rattle.network_laws.proofs.NodeStartLemmas.{started_when_configured}
use Rattle.network_laws.proofs.run_laws.no_node_is_started_before_it_is_configured.Goals as goal

pub returns-clause-waits : goal.returns-clause-waits
returns-clause-waits c = started_when_configured

pub returns-clause-starts : goal.returns-clause-starts
returns-clause-starts c = sent_waited

pub returns-clause-ends : goal.returns-clause-ends
returns-clause-ends c = run_ends
