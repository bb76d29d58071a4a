use Rattle.std.proofs.Common.{◌≡◌, length, ap, arith}
use Rattle.std.proofs.lemmas.Grind.{common_steps}
use Rattle.ini_text.specs.Reading.{State}
use Rattle.base.proofs.LineLemmas.{lines_of_empty}
use Rattle.ini_text.proofs.ini.read_lines.Goals as goal

pub returns : goal.returns
returns c =
    let none : length c.lines.rest.now ≡ 0 = grind (arith, common_steps) in
    let e = lines_of_empty c.lines.rest.now none in
    ap (λ (s : State). s.content) (rw e at c.lines.invariant.runs)
