use Rattle.co_diag.proofs.FoundLemmas.{two_lists}
use Rattle.co_diag.proofs.laws.what_holds_determines_the_list.Goals as goal

pub returns : goal.returns
returns c = two_lists
