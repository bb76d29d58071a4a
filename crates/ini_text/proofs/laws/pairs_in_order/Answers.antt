use Rattle.ini_text.proofs.OrderLemmas.{gives_from, gives_to}
use Rattle.ini_text.proofs.laws.pairs_in_order.Goals as goal

pub returns : goal.returns
returns c = λ lines name position given. (gives_from lines name position given, gives_to lines name position given)
