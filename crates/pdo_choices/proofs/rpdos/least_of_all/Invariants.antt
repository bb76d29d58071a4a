use Rattle.std.proofs.Common.{◌≡◌, ℕ, ◌<◌, ◌≤◌, Bool, false}
use Rattle.pdo_choices.specs.Rpdos.{may_take}
use Rattle.pdo_choices.specs.Taken.{had_in}
use Rattle.pdo_choices.proofs.rpdos.least_of_all.Given as goal

-- none so far may be given
abbrev pub invariant-loop-number : goal.invariant-loop-number
invariant-loop-number l =
    let test : ℕ → Bool = may_take (had_in l.taken) l.device l.wish.linked.now l.wish.carried.now l.wish.identifier l.node in
    (k : ℕ) → 1 ≤ k → k < l.number → test k ≡ false
