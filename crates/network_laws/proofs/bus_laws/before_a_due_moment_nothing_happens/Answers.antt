use Rattle.can_bus.proofs.DueLemmas.{due_later}
use Rattle.network_laws.proofs.bus_laws.before_a_due_moment_nothing_happens.Goals as goal

pub returns-clause-least : goal.returns-clause-least
returns-clause-least c = due_later
