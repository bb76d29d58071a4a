use Rattle.std.proofs.Common.{refl}
use Rattle.workbench.proofs.workbench.Workbench.listed_dcf.Goals as goal

pub returns-clause-brings : goal.returns-clause-brings
returns-clause-brings c = rw (← c.self.view_is) record { parts = c.in_ok-text.ensures.brings; store = refl }
