use Rattle.pdo_links.proofs.WhoseLemmas.{of_messages}
use Rattle.pdo_links.proofs.laws.the_writes_to_pdos_are_those_of_the_nodes_messages.Goals as goal

pub returns-clause-of_messages : goal.returns-clause-of_messages
returns-clause-of_messages c = of_messages
