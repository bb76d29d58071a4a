use Rattle.diag_nodes.proofs.sheet_found.SheetFound.let_go.Goals as goal

pub invariant_of-self : goal.invariant_of-self
invariant_of-self c = (c.self.invariant.0, c.keep_nodes.ensures c.self.inside.device c.self.invariant.1)
