use Rattle.can_frame.specs.Least.{IsFirstLeast}
use Rattle.can_frame.specs.WaitingFrames.{identifiers}
use Rattle.can_frame.proofs.walks.least_place.Given as goal

abbrev pub invariant-loop-place : goal.invariant-loop-place
invariant-loop-place l = IsFirstLeast (identifiers l.frames) l.place l.least
