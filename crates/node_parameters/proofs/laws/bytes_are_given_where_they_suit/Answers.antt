use Rattle.node_parameters.proofs.JudgedLemmas.{judged_suits}
use Rattle.node_parameters.proofs.laws.bytes_are_given_where_they_suit.Goals as goal

pub returns : goal.returns
returns c = judged_suits
