use Rattle.co_scenario.proofs.PieceLemmas.{pieces}
use Rattle.co_scenario.proofs.laws.events_between_are_those_up_to_a_time_and_then_the_others.Goals as goal

pub returns : goal.returns
returns c = pieces
