use Rattle.std.proofs.Common.{ap, subst, sym, ◌∙◌}
use Rattle.eds_device.specs.Sheets.{Sheet}
use Rattle.project_plan.specs.Network.{member_of}
use Rattle.project_plan.specs.Sheets.{AreEntriesOf}
use Rattle.diag_nodes.proofs.sheet_found.SheetFound.find.Goals as goal

pub find-requires : goal.find-requires
find-requires c =
    subst (λ (s : Sheet). AreEntriesOf s c.self.inside.entries) (sym c.in_ok-device.ensures) c.self.invariant.0

pub returns : goal.returns
returns c =
    c.in_ok-found.ensures
    ∙ ap (member_of c.args.id c.args.node.now) (c.in_ok-device.ensures ∙ c.self.view_is)
