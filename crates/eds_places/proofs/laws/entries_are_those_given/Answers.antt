use Rattle.eds_places.proofs.GivenLemmas.{given_by_some}
use Rattle.eds_places.proofs.laws.entries_are_those_given.Goals as goal

pub returns-clause-given : goal.returns-clause-given
returns-clause-given c = given_by_some
