use Rattle.std.proofs.Common.{◌≡◌, take}
use Rattle.device_pdos.proofs.rpdos.same_rpdos.Given as goal

abbrev pub invariant-loop-place : goal.invariant-loop-place
invariant-loop-place l = take l.place l.rpdos ≡ take l.place l.others
