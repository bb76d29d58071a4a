use Rattle.network_laws.proofs.BeatLemmas.{tells_when_due}
use Rattle.network_laws.proofs.StampLemmas.{stamps_of_identifier}
use Rattle.network_laws.proofs.run_laws.waiting_time_stamps_tell_when_they_were_due.Goals as goal

pub returns-clause-all : goal.returns-clause-all
returns-clause-all c = tells_when_due

pub returns-clause-identifier : goal.returns-clause-identifier
returns-clause-identifier c = stamps_of_identifier
