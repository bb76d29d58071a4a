use Rattle.co_scenario.proofs.BetweenLemmas.{rise}
use Rattle.co_scenario.proofs.laws.events_between_rise.Goals as goal

pub returns : goal.returns
returns c = rise
