use Rattle.network_laws.proofs.StateLemmas.{sending_is_silent}
use Rattle.network_laws.proofs.device_laws.a_stopped_device_says_nothing_by_sdo_or_emergency.Goals as goal

pub returns-clause-sent : goal.returns-clause-sent
returns-clause-sent c = sending_is_silent
