use Rattle.pdo_rules.proofs.TpdoLemmas.{last_is}
use Rattle.pdo_rules.proofs.laws.what_was_sent_is_remembered.Goals as goal

pub returns : goal.returns
returns c = last_is
