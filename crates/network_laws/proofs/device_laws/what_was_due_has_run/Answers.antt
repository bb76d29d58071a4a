use Rattle.device_agenda.proofs.AheadLemmas.{due_later}
use Rattle.device_agenda.proofs.RestLemmas.{ran_after}
use Rattle.network_laws.proofs.device_laws.what_was_due_has_run.Goals as goal

pub returns-clause-timers : goal.returns-clause-timers
returns-clause-timers c = due_later

pub returns-clause-all : goal.returns-clause-all
returns-clause-all c = ran_after
