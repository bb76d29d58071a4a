use Rattle.network_laws.proofs.OwnLemmas.{command_owns, frame_owns, power_owns, sent_owns, timers_own}
use Rattle.network_laws.proofs.boot_exchanges.each_frame_of_the_manager_is_its_own.Goals as goal

pub returns-clause-power : goal.returns-clause-power
returns-clause-power c = power_owns

pub returns-clause-command : goal.returns-clause-command
returns-clause-command c = command_owns

pub returns-clause-frame : goal.returns-clause-frame
returns-clause-frame c = frame_owns

pub returns-clause-timers : goal.returns-clause-timers
returns-clause-timers c = timers_own

pub returns-clause-sent : goal.returns-clause-sent
returns-clause-sent c = sent_owns
