use Rattle.std.proofs.Common.{◌≡◌, drop}
use Rattle.base.specs.Moments.{earlier, earliest}
use Rattle.device_pdos.specs.Tpdos.{moments}
use Rattle.device_pdos.proofs.tpdos.next_moment.Given as goal

-- the earliest so far, and what is left, give the earliest of all
abbrev pub invariant-loop-tpdo : goal.invariant-loop-tpdo
invariant-loop-tpdo l = earlier l.next (earliest (moments l.operational (drop l.tpdo-index l.tpdos)))
    ≡ earliest (moments l.operational l.tpdos)
