use Rattle.base.proofs.Capped.{digits_number-lt}
use Rattle.base.proofs.text_laws.digits_bound_the_number.Goals as goal

pub returns : goal.returns
returns c = digits_number-lt
