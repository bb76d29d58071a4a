use Rattle.ini_text.proofs.OrderLemmas.{opens_from, opens_to}
use Rattle.ini_text.proofs.laws.sections_in_order.Goals as goal

pub returns : goal.returns
returns c = λ lines position name. (opens_from lines position name, opens_to lines position name)
