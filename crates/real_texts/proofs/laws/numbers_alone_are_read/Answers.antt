use Rattle.real_texts.proofs.Words.{numbers_alone_are_read as law}
use Rattle.real_texts.proofs.laws.numbers_alone_are_read.Goals as goal

pub returns : goal.returns
returns c = law
