use Rattle.co_diag.proofs.CountLemmas.{none_had}
use Rattle.co_diag.proofs.shared.Counts.none.Goals as goal

pub returns : goal.returns
returns c q = none_had 2048 q
