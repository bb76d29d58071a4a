use Rattle.device_agenda.proofs.LowByteLemmas.{byte_of_four}
use Rattle.device_agenda.proofs.low_bytes.with_byte.Goals as goal

pub returns : goal.returns
returns c = rw (c.from.ensures, c.from-2.ensures) (byte_of_four c.args.words c.args.low c.ranges.low.fits)
