-- What a number of a range is.
use Rattle.std.proofs.Common.{◌≡◌, ℕ, ◌≤◌, true, arith}
use Rattle.std.proofs.lemmas.Bool.Decides.{nat_tests}
use Rattle.base.specs.Ranges.{is_between}

pub between : (low high n : ℕ) → is_between low high n ≡ true → (low ≤ n) × (n ≤ high)
between low high n e = (grind (arith, nat_tests), grind (arith, nat_tests))

pub is_within : (low high n : ℕ) → low ≤ n → n ≤ high → is_between low high n ≡ true
is_within low high n from to = grind (arith, nat_tests)
