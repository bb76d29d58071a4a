use Rattle.std.proofs.Common.{◌≡◌, ◌≤◌, ◌<◌, ◌++◌, length, drop}
use Rattle.std.specs.Prelude.{decimal}
use Rattle.project_edits.proofs.written.put_number.Given as goal

abbrev pub invariant-digits : goal.invariant-digits
invariant-digits l =
    (length (decimal l.left) < l.at) × (l.at ≤ 21) × (length l.row ≡ 21)
    × (decimal l.left ++ drop l.at l.row ≡ decimal l.number)

abbrev pub decreases-digits : goal.decreases-digits
decreases-digits l = l.left
