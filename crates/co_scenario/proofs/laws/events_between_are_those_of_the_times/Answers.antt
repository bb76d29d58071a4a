use Rattle.co_scenario.proofs.BetweenLemmas.{has_exactly}
use Rattle.co_scenario.proofs.laws.events_between_are_those_of_the_times.Goals as goal

pub returns : goal.returns
returns c = λ events first last moment. has_exactly first last moment events
