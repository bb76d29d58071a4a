use Rattle.network_laws.proofs.NodeLemmas.{boot_begins, own_greeted}
use Rattle.network_laws.proofs.boot_exchanges.a_boot_up_message_drops_the_requests_that_wait.Goals as goal

pub returns-clause-others : goal.returns-clause-others
returns-clause-others c = λ image t frame m i own other b. boot_begins m i own image t frame other b

pub returns-clause-own : goal.returns-clause-own
returns-clause-own c = λ image t frame m i own itself b. own_greeted m i own image t frame itself b
