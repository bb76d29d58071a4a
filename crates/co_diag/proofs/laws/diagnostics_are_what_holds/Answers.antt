use Rattle.co_diag.proofs.FoundLemmas.{the_list}
use Rattle.co_diag.proofs.laws.diagnostics_are_what_holds.Goals as goal

pub returns : goal.returns
returns c = the_list
