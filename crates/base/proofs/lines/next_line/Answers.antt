use Rattle.std.proofs.Common.{arith}
use Rattle.std.proofs.lemmas.Grind.{common_steps}
use Rattle.base.proofs.LineLemmas.{lines_of_first}
use Rattle.base.proofs.lines.next_line.Goals as goal

pub returns-in-Some-clause-lines : goal.returns-in-Some-clause-lines
returns-in-Some-clause-lines c = let e = lines_of_first c.args.text.now c.requires in grind (arith, common_steps, e)

pub returns-in-None-clause-lines : goal.returns-in-None-clause-lines
returns-in-None-clause-lines c = let e = lines_of_first c.args.text.now c.requires in grind (arith, common_steps, e)
