use Rattle.std.proofs.Common.{arith}
use Rattle.std.proofs.lemmas.Grind.{common_steps}
use Rattle.can_bus.specs.Lines.{lines_text}
use Rattle.can_bus.proofs.line_texts.text.Goals as goal

pub loop-line-preserved : goal.loop-line-preserved
unfolding lines_text
loop-line-preserved c = grind (arith, common_steps)

pub loop-line-init : goal.loop-line-init
unfolding lines_text
loop-line-init c = grind (arith, common_steps)
