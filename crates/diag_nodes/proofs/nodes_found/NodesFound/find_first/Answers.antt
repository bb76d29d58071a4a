use Rattle.std.proofs.Common.{ap, ◌∙◌}
use Rattle.std.specs.FinMap.{insert}
use Rattle.project_plan.specs.Network.{member_of}
use Rattle.diag_nodes.proofs.nodes_found.NodesFound.find_first.Goals as goal

pub returns-clause-found : goal.returns-clause-found
returns-clause-found c = c.in_ok-found.ensures ∙ ap (member_of c.args.id c.args.node.now) c.in_ok-sheet.ensures

pub returns-clause-sheets : goal.returns-clause-sheets
returns-clause-sheets c =
    c.in_ok-add.ensures ∙ (λ i. insert c.args.self.now (c.as_slice.ensures i) (c.in_ok-sheet.ensures i))
