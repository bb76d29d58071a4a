use Rattle.std.proofs.Common.{◌≡◌, drop}
use Rattle.base.specs.Moments.{earlier, earliest}
use Rattle.nmt_boot.specs.Periodic.{next_moments}
use Rattle.nmt_boot.proofs.periodic.first_due.Given as goal

-- the first so far, and what is left, give the first of all
abbrev pub invariant-loop-one : goal.invariant-loop-one
invariant-loop-one l = earlier l.first (earliest (next_moments (drop l.one-index l.all)))
    ≡ earliest (next_moments l.all)
