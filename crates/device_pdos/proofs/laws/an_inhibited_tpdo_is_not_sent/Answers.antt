use Rattle.device_pdos.proofs.LookLemmas.{kept_while_inhibited, unsent_while_inhibited}
use Rattle.device_pdos.proofs.laws.an_inhibited_tpdo_is_not_sent.Goals as goal

pub returns-clause-sent : goal.returns-clause-sent
returns-clause-sent c = unsent_while_inhibited

pub returns-clause-kept : goal.returns-clause-kept
returns-clause-kept c = kept_while_inhibited
