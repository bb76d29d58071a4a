use Rattle.std.proofs.Common.{◌≡◌, ◌++◌, drop, map, take}
use Rattle.device_pdos.specs.Tpdos.{tpdo_after_inhibit}
use Rattle.device_pdos.proofs.tpdos.free_tpdos.Given as goal

-- what is done and what is left give what all give
abbrev pub invariant-loop-tpdo : goal.invariant-loop-tpdo
invariant-loop-tpdo l = take l.tpdo-index l.tpdos ++ map (tpdo_after_inhibit l.fn.t) (drop l.tpdo-index l.tpdos)
    ≡ map (tpdo_after_inhibit l.fn.t) l.fn.tpdos
