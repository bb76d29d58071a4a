use Rattle.device_agenda.proofs.LowByteLemmas.{each_bit}
use Rattle.device_agenda.proofs.low_bytes.LowBytes.all.Goals as goal

pub returns : goal.returns
returns c = each_bit
