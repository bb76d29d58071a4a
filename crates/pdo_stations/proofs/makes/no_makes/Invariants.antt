use Rattle.std.proofs.Common.{◌≡◌, ℕ, get_or, None, length}
use Rattle.pdo_stations.proofs.makes.no_makes.Given as goal

-- the seats so far are empty
abbrev pub invariant-loop-number : goal.invariant-loop-number
invariant-loop-number l = record {
  count : length l.makes.items ≡ l._number;
  empty : (node : ℕ) → get_or l.makes.items node None ≡ None;
}
