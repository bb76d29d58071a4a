use Rattle.std.proofs.Common.{◌∙◌, ap, refl, sym}
use Rattle.std.specs.Option.{option_copied}
use Rattle.project_plan.specs.Network.{device_at}
use Rattle.co_diag.specs.Found.{node_findings}
use Rattle.co_diag.proofs.WalkLemmas.{found_made}
use Rattle.co_diag.proofs.vendor.find_of_node.Goals as goal

pub returns : goal.returns
returns c = found_made c.args.plan.now c.args.library.now.project (c.args.id, c.args.node.now)
    c.in-Some.device.now _ _ _
    (ap (device_at c.args.library.now.project) (sym c.as_slice.ensures) ∙ sym c.device_of.ensures ∙ ap option_copied c.in-Some.is)
    c.in_ok-made.ensures c.in_ok-find_of_pdos.ensures
