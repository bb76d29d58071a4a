use Rattle.std.proofs.Common.{◌≡◌, take}
use Rattle.device_pdos.proofs.rpdos.copy_rpdos.Given as goal

-- the first ones are copied
abbrev pub invariant-loop-rpdo : goal.invariant-loop-rpdo
invariant-loop-rpdo l = l.copies.items ≡ take l.rpdo-index l.rpdos
