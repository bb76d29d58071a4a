use Rattle.pdo_links.proofs.WhoseLemmas.{sent_written, taken_written}
use Rattle.pdo_links.proofs.laws.no_pdo_of_a_node_is_missing.Goals as goal

pub returns-clause-sent : goal.returns-clause-sent
returns-clause-sent c = sent_written

pub returns-clause-taken : goal.returns-clause-taken
returns-clause-taken c = taken_written
