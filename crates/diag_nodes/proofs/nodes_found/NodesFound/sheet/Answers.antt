use Rattle.std.proofs.Common.{◌∙◌}
use Rattle.diag_nodes.proofs.HeldLemmas.{sheet_found}
use Rattle.diag_nodes.proofs.nodes_found.NodesFound.sheet.Goals as goal

pub returns : goal.returns
returns c = c.get.ensures.value ∙ sheet_found c.self.inside.sheets c.args.self.now c.self.view_is c.args.name.now
