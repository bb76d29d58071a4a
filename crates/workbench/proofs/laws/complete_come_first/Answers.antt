use Rattle.workbench.proofs.Lines.{complete_come_first}
use Rattle.workbench.proofs.laws.complete_come_first.Goals as goal

pub returns : goal.returns
returns c = complete_come_first
