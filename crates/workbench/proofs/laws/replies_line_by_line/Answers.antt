use Rattle.workbench.proofs.Lines.{replies_line_by_line}
use Rattle.workbench.proofs.laws.replies_line_by_line.Goals as goal

pub returns : goal.returns
returns c = replies_line_by_line
