use Rattle.std.proofs.Common.{◌≡◌, take}
use Rattle.can_frame.proofs.walks.are_same.Given as goal

abbrev pub invariant-loop-place : goal.invariant-loop-place
invariant-loop-place l = take l.place l.frames ≡ take l.place l.others
