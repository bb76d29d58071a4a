use Rattle.pdo_rules.proofs.TpdoLemmas.{held_by_type}
use Rattle.pdo_rules.proofs.laws.an_inhibited_tpdo_is_not_sent.Goals as goal

pub returns : goal.returns
returns c = held_by_type
