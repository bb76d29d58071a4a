use Rattle.nmt_boot.proofs.BeatLemmas.{all_there}
use Rattle.nmt_boot.proofs.laws.no_periodic_message_is_forgotten.Goals as goal

pub returns : goal.returns
returns c = all_there
