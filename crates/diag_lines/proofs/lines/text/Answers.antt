use Rattle.std.proofs.Common.{arith}
use Rattle.std.proofs.lemmas.Grind.{common_steps}
use Rattle.diag_lines.specs.Lines.{diag_text}
use Rattle.diag_lines.proofs.lines.text.Goals as goal

pub loop-diag-preserved : goal.loop-diag-preserved
unfolding diag_text
loop-diag-preserved c = grind (arith, common_steps)

pub loop-diag-init : goal.loop-diag-init
unfolding diag_text
loop-diag-init c = grind (arith, common_steps)
