use Rattle.std.proofs.Common.{ap, sym, ◌∙◌, Some}
use Rattle.std.specs.FinMap.{get}
use Rattle.project_plan.specs.Network.{member_of}
use Rattle.diag_nodes.proofs.HeldLemmas.{sheet_is}
use Rattle.diag_nodes.proofs.nodes_found.NodesFound.current.Goals as goal

pub returns-clause-found : goal.returns-clause-found
returns-clause-found c =
    let is = c.in_ok-sheet.ensures ∙ ap (get c.args.self.now) c.as_slice.ensures in
    c.in_ok-found.ensures
    ∙ ap (member_of c.args.id c.args.node.now)
    (sheet_is (get c.args.self.now c.args.node.now.eds) c.in_ok-sheet.sheet.now c.args.device.now is c.requires)

pub returns-clause-sheet : goal.returns-clause-sheet
returns-clause-sheet c =
    let is = c.in_ok-sheet.ensures ∙ ap (get c.args.self.now) c.as_slice.ensures in
    sym is
    ∙ ap Some
    (sheet_is (get c.args.self.now c.args.node.now.eds) c.in_ok-sheet.sheet.now c.args.device.now is c.requires)
