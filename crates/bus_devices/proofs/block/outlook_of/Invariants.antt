use Rattle.bus_devices.proofs.OutlookLemmas.{FollowsSoFar}
use Rattle.bus_devices.proofs.block.outlook_of.Given as goal

-- it follows of those so far
abbrev pub invariant-loop-place : goal.invariant-loop-place
invariant-loop-place l = FollowsSoFar l.all l.each l.fn.count l.place
