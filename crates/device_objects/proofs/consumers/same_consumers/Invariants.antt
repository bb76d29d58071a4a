use Rattle.std.proofs.Common.{◌≡◌, take}
use Rattle.device_objects.proofs.consumers.same_consumers.Given as goal

abbrev pub invariant-loop-place : goal.invariant-loop-place
invariant-loop-place l = take l.place l.consumers ≡ take l.place l.others
