use Rattle.ini_text.proofs.WarnedLemmas.{warned_from, warned_to}
use Rattle.ini_text.proofs.laws.warned_for_a_reason.Goals as goal

pub returns : goal.returns
returns c = λ lines number. (warned_from lines number, warned_to lines number)
