use Rattle.std.proofs.Common.{◌≡◌, take}
use Rattle.device_pdos.proofs.tpdos.copy_tpdos.Given as goal

-- the first ones are copied
abbrev pub invariant-loop-tpdo : goal.invariant-loop-tpdo
invariant-loop-tpdo l = l.copies.items ≡ take l.tpdo-index l.tpdos
