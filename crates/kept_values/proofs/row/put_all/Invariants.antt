use Rattle.std.proofs.Common.{◌≡◌, ◌++◌, length, reverse}
use Rattle.kept_values.proofs.row.put_all.Given as goal

-- what is left stands before the rest
abbrev pub invariant-left : goal.invariant-left
invariant-left g l = l.left.items ++ l.rest ≡ reverse l.fn.row.items ++ l.fn.rest

abbrev pub decreases-left : goal.decreases-left
decreases-left g l = length l.left.items
