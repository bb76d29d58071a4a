use Rattle.std.proofs.Common.{◌≡◌, ◌++◌, drop, map, take}
use Rattle.device_pdos.specs.Tpdos.{tpdo_after_write}
use Rattle.device_pdos.proofs.tpdos.write_tpdos.Given as goal

-- what is done and what is left give what all give
abbrev pub invariant-loop-tpdo : goal.invariant-loop-tpdo
invariant-loop-tpdo l =
    let step = tpdo_after_write l.fn.shape l.fn.dict l.fn.index in
    take l.tpdo-index l.tpdos ++ map step (drop l.tpdo-index l.tpdos) ≡ map step l.fn.tpdos
