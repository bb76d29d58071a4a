use Rattle.std.proofs.Common.{rules}
use Rattle.workbench.proofs.workbench.Workbench.edit.Goals as goal

pub invariant_of-self : goal.invariant_of-self
invariant_of-self c = (search rules, search rules, c.self.invariant.2)

pub invariant_of-self-2 : goal.invariant_of-self-2
invariant_of-self-2 c = (search rules, search rules, c.self.invariant.2)
