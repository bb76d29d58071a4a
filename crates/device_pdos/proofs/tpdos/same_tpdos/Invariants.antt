use Rattle.std.proofs.Common.{◌≡◌, take}
use Rattle.device_pdos.proofs.tpdos.same_tpdos.Given as goal

abbrev pub invariant-loop-place : goal.invariant-loop-place
invariant-loop-place l = take l.place l.tpdos ≡ take l.place l.others
