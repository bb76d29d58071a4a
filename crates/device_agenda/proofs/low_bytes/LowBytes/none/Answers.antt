use Rattle.device_agenda.proofs.LowByteLemmas.{no_bit}
use Rattle.device_agenda.proofs.low_bytes.LowBytes.none.Goals as goal

pub returns-clause-none : goal.returns-clause-none
returns-clause-none c = no_bit
