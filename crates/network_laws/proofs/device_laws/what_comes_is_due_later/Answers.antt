use Rattle.device_agenda.proofs.AheadLemmas.{frame_ahead, power_ahead, set_ahead}
use Rattle.network_laws.proofs.device_laws.what_comes_is_due_later.Goals as goal

pub returns-clause-frame : goal.returns-clause-frame
returns-clause-frame c image t u frame d now h = frame_ahead t u now image frame d h

pub returns-clause-power : goal.returns-clause-power
returns-clause-power c image t u on d now h = power_ahead t u now image on d h

pub returns-clause-set : goal.returns-clause-set
returns-clause-set c t u place bytes d now h = set_ahead t u now place bytes d h
