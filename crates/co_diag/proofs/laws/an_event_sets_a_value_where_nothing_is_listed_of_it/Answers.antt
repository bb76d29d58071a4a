use Rattle.co_diag.proofs.SetFound.{sets_where_unlisted}
use Rattle.co_diag.proofs.laws.an_event_sets_a_value_where_nothing_is_listed_of_it.Goals as goal

pub returns : goal.returns
returns c = sets_where_unlisted
