use Rattle.std.proofs.Common.{◌≡◌, take}
use Rattle.nmt_boot.proofs.periodic.same.Given as goal

abbrev pub invariant-loop-place : goal.invariant-loop-place
invariant-loop-place l = take l.place l.all ≡ take l.place l.others
