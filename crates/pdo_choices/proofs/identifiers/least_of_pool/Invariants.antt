use Rattle.std.proofs.Common.{◌≡◌, ℕ, ◌<◌, ◌≤◌, false}
use Rattle.pdo_choices.specs.Identifiers.{is_free_identifier}
use Rattle.pdo_choices.specs.Taken.{had_in}
use Rattle.pdo_choices.proofs.identifiers.least_of_pool.Given as goal

-- none so far is free
abbrev pub invariant-loop-number : goal.invariant-loop-number
invariant-loop-number l = (k : ℕ) → 0x681 ≤ k → k < l.number → is_free_identifier (had_in l.taken) k ≡ false
