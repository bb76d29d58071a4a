use Rattle.co_dict.proofs.RestoredLemmas.{restored_held}
use Rattle.co_dict.proofs.laws.a_range_is_restored_alone.Goals as goal

pub returns-clause-lengths : goal.returns-clause-lengths
returns-clause-lengths c = restored_held
