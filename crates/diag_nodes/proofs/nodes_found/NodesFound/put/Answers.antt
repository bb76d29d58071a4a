use Rattle.std.proofs.Common.{ap, ◌∙◌}
use Rattle.std.specs.FinMap.{get}
use Rattle.diag_nodes.proofs.HeldLemmas.{sheet_found, sheet_is, sheet_left, sheets_stay}
use Rattle.diag_nodes.proofs.nodes_found.NodesFound.put.Goals as goal

pub returns-in_default : goal.returns-in_default
returns-in_default c =
    sheets_stay c.self.inside.sheets c.args.self.now c.self.view_is c.get_mut.follows.lender-at-none
    c.get_mut.follows.holds-at-none

pub put-requires : goal.put-requires
put-requires c =
    sheet_is (get c.args.self.now c.args.node.now.eds) c.in-Some.sheet.now c.args.found.1.sheet
    (c.in-Some.ensures.value
    ∙ sheet_found c.self.inside.sheets c.args.self.now c.self.view_is c.as_slice.result.now
    ∙ ap (get c.args.self.now) c.as_slice.ensures)
    c.requires

pub returns : goal.returns
returns c =
    let new = c.put.new.self in
    sheet_left c.self.inside.sheets c.args.self.now c.self.view_is (c.get_mut.follows.lender new) c.as_slice.result.now
    c.in-Some.sheet.now new c.in-Some.ensures.value c.put.ensures (c.get_mut.follows.holds new)
