use Rattle.std.proofs.Common.{refl}
use Rattle.workbench.proofs.workbench.Workbench.listed_concise.Goals as goal

pub returns-clause-brings : goal.returns-clause-brings
returns-clause-brings c = rw (← c.self.view_is) record { parts = c.in_ok-bytes.ensures.brings; store = refl }
