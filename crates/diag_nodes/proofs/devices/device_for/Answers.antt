use Rattle.std.proofs.Common.{◌∙◌, ap, subst, sym}
use Rattle.co_project.specs.Project.{Content}
use Rattle.co_project.specs.Tables.{node_at}
use Rattle.project_plan.specs.Library.{IsRead}
use Rattle.diag_nodes.proofs.DeviceLemmas.{read_of}
use Rattle.diag_nodes.proofs.devices.device_for.Goals as goal

pub device_of-requires : goal.device_of-requires
device_of-requires c =
    subst (IsRead c.args.library.now) (sym c.as_slice.ensures)
    (read_of c.args.library.now c.args.id c.in_ok-node.node.now c.requires (ap (λ (p : Content). node_at p.nodes c.args.id) (sym c.project.ensures)
    ∙ sym c.in_ok-node.ensures.node))
