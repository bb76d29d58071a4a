use Rattle.std.proofs.Common.{◌≡◌, ◌++◌, drop, map, take}
use Rattle.device_pdos.specs.Rpdos.{rpdo_after_write}
use Rattle.device_pdos.proofs.rpdos.write_rpdos.Given as goal

-- what is done and what is left give what all give
abbrev pub invariant-loop-rpdo : goal.invariant-loop-rpdo
invariant-loop-rpdo l =
    let step = rpdo_after_write l.fn.shape l.fn.dict l.fn.index in
    take l.rpdo-index l.rpdos ++ map step (drop l.rpdo-index l.rpdos) ≡ map step l.fn.rpdos
