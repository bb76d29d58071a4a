use Rattle.std.proofs.Common.{◌≡◌, ◌++◌, drop, map, take}
use Rattle.device_pdos.specs.Rpdos.{without_kept_frame}
use Rattle.device_pdos.proofs.rpdos.empty_rpdos.Given as goal

-- what is done and what is left give what all give
abbrev pub invariant-loop-rpdo : goal.invariant-loop-rpdo
invariant-loop-rpdo l = take l.rpdo-index l.rpdos ++ map without_kept_frame (drop l.rpdo-index l.rpdos)
    ≡ map without_kept_frame l.fn.rpdos
