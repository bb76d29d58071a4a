use Rattle.real_texts.proofs.Finite.{printed_is_read as law}
use Rattle.real_texts.proofs.laws.printed_is_read.Goals as goal

pub returns : goal.returns
returns c = law
