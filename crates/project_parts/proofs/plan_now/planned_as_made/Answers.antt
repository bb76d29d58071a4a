use Rattle.std.proofs.Common.{◌∙◌, ap}
use Rattle.pdo_stations.specs.Shown.{nodes_of}
use Rattle.project_parts.proofs.NamedLemmas.{all_planned}
use Rattle.project_parts.proofs.plan_now.planned_as_made.Goals as goal

pub returns : goal.returns
returns c =
    c.in_ok-plan.ensures
    ∙ all_planned c.args.controller c.args.devices.now c.args.messages.now (nodes_of c.deref.result.now)
    (ap nodes_of c.deref.ensures.value ∙ c.in_ok-nodes.ensures)
