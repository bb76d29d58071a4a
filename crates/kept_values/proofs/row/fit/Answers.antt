use Rattle.std.proofs.Common.{◌≡◌, ◌+◌, ◌<◌, length, reverse, arith}
use Rattle.std.proofs.lemmas.List.{length-reverse}
use Rattle.kept_values.proofs.RowLemmas.{cut_back, row_drop}
use Rattle.kept_values.proofs.row.fit.Goals.{else-len-capacity-via-then-len-capacity+else-others-capacity, else-len-capacity-via-else-len-capacity}
use Rattle.kept_values.proofs.row.fit.Goals as goal

pub returns-then-others-gt0-clause-entries : goal.returns-then-others-gt0-clause-entries
returns-then-others-gt0-clause-entries g c =
    let row = c.args.row.now.items in
    let rest = c.args.rest.now in
    let many : c.args.capacity + 1 ≡ length row + length rest = elim c.else-len-capacity.branch [
      | else-len-capacity-via-then-len-capacity+else-others-capacity w ↦ omega arith
      | else-len-capacity-via-else-len-capacity w ↦ omega arith
    ] in
    let some : 0 < length rest = omega arith in
    rw c.drop_last.ensures (cut_back c.args.capacity (reverse row) rest (omega (arith, many, length-reverse row)) some)

pub returns-clause-numbers : goal.returns-clause-numbers
returns-clause-numbers g c = rw c.remove-first.ensures.items (row_drop g.V.Numbered.number_of c.args.first 1 c.args.row.now.items c.requires.numbers)
