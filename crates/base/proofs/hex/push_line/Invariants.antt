use Rattle.std.proofs.Common.{◌≡◌, ◌++◌, length}
use Rattle.base.specs.Hex.{hex_line}
use Rattle.base.proofs.hex.push_line.Given as goal

abbrev pub invariant-fours : goal.invariant-fours
invariant-fours l = l.out.items ++ hex_line l.rest ≡ l.fn.out.items ++ hex_line l.row

abbrev pub decreases-fours : goal.decreases-fours
decreases-fours l = length l.rest

abbrev pub invariant-ones : goal.invariant-ones
invariant-ones l = l.out.items ++ hex_line l.rest ≡ l.fn.out.items ++ hex_line l.row

abbrev pub decreases-ones : goal.decreases-ones
decreases-ones l = length l.rest
