use Rattle.std.proofs.Common.{◌≡◌, ◌++◌, drop, map, take}
use Rattle.device_pdos.specs.Tpdos.{without_memory}
use Rattle.device_pdos.proofs.tpdos.forget_tpdos.Given as goal

-- what is done and what is left give what all give
abbrev pub invariant-loop-tpdo : goal.invariant-loop-tpdo
invariant-loop-tpdo l = take l.tpdo-index l.tpdos ++ map without_memory (drop l.tpdo-index l.tpdos)
    ≡ map without_memory l.fn.tpdos
