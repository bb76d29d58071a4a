use Rattle.workbench.proofs.Keeps.{refused_changes_nothing}
use Rattle.workbench.proofs.laws.refused_changes_nothing.Goals as goal

pub returns : goal.returns
returns c = refused_changes_nothing
