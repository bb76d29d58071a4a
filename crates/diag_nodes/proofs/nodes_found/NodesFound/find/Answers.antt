use Rattle.std.proofs.Common.{ap, ◌∙◌}
use Rattle.std.specs.FinMap.{get}
use Rattle.project_plan.specs.Network.{member_of}
use Rattle.diag_nodes.proofs.HeldLemmas.{held_again, sheet_is}
use Rattle.diag_nodes.proofs.nodes_found.NodesFound.find.Goals as goal

pub returns-in-Some-clause-found : goal.returns-in-Some-clause-found
returns-in-Some-clause-found c =
    let is = c.in-Some.ensures ∙ ap (get c.args.self.now) c.as_slice.ensures in
    c.in_ok-found.ensures
    ∙ ap (member_of c.args.id c.args.node.now)
    (sheet_is (get c.args.self.now c.args.node.now.eds) c.in-Some.sheet.now c.args.device is c.requires)

pub returns-in-Some-clause-sheets : goal.returns-in-Some-clause-sheets
returns-in-Some-clause-sheets c =
    held_again c.args.self.now c.args.node.now.eds c.in-Some.sheet.now c.args.device
    (c.in-Some.ensures ∙ ap (get c.args.self.now) c.as_slice.ensures) c.requires
