use Rattle.device_agenda.proofs.LowByteLemmas.{deaf_both, either_byte}
use Rattle.device_agenda.proofs.low_bytes.LowBytes.and.Goals as goal

pub returns-clause-devices : goal.returns-clause-devices
returns-clause-devices c =
    deaf_both c.args.self c.args.other.now _ (either_byte c.args.self.words c.args.other.now.words)

pub returns-clause-each : goal.returns-clause-each
returns-clause-each c = either_byte c.args.self.words c.args.other.now.words
