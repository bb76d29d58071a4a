use Rattle.can_frame.proofs.ContenderLemmas.{none_waits, winner_first}
use Rattle.can_frame.proofs.laws.the_winner_comes_first.Goals as goal

pub returns-clause-none : goal.returns-clause-none
returns-clause-none c = none_waits

pub returns-clause-first : goal.returns-clause-first
returns-clause-first c = winner_first
