use Rattle.real_texts.proofs.Finite.{texts_differ as law}
use Rattle.real_texts.proofs.laws.texts_differ.Goals as goal

pub returns : goal.returns
returns c = law
