use Rattle.can_bus.proofs.DueRunLemmas.{due_run_is_run}
use Rattle.network_laws.proofs.bus_laws.the_run_over_due_moments_is_the_run.Goals as goal

pub returns : goal.returns
returns c = due_run_is_run
