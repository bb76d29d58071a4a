use Rattle.real_texts.proofs.Finite.{what_is_read_is_finite as law}
use Rattle.real_texts.proofs.laws.what_is_read_is_finite.Goals as goal

pub returns-clause-finite : goal.returns-clause-finite
returns-clause-finite c = law
