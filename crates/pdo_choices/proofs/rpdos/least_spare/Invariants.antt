use Rattle.std.proofs.Common.{◌≡◌, ℕ, ◌<◌, ◌≤◌, false}
use Rattle.pdo_stations.specs.Flags.{is_spare}
use Rattle.pdo_choices.proofs.rpdos.least_spare.Given as goal

-- none so far is free
abbrev pub invariant-loop-number : goal.invariant-loop-number
invariant-loop-number l = (k : ℕ) → 1 ≤ k → k < l.number
    → is_spare l.station l.taken.flags.items l.node l.count k ≡ false
