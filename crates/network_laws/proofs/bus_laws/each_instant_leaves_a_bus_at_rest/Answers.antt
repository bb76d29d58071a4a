use Rattle.can_bus.proofs.DueRunLemmas.{at_rest_after}
use Rattle.network_laws.proofs.bus_laws.each_instant_leaves_a_bus_at_rest.Goals as goal

pub returns-clause-rest : goal.returns-clause-rest
returns-clause-rest c = at_rest_after
