use Rattle.std.proofs.Common.{inl, inr, refl}
use Rattle.co_segments.proofs.rejoining.reach.Goals as goal

pub returns-in-Some-clause-reached : goal.returns-in-Some-clause-reached
returns-in-Some-clause-reached c = inr (rw c.in-Some.is at c.in_ok-start.ensures, refl)

pub returns-in_ok-state-in-None-clause-reached : goal.returns-in_ok-state-in-None-clause-reached
returns-in_ok-state-in-None-clause-reached c = inl (c.in_ok-state-in-None.ensures.is, c.in_ok-state-in-None.ensures.ok)

pub returns-in_ok-state-in-None-clause-new : goal.returns-in_ok-state-in-None-clause-new
returns-in_ok-state-in-None-clause-new c = λ h. rw c.in-None.is at c.in_ok-start.ensures
