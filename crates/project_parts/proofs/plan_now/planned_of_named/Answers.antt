use Rattle.std.proofs.Common.{◌∙◌, ap}
use Rattle.pdo_stations.specs.Shown.{nodes_of}
use Rattle.project_parts.proofs.NamedLemmas.{named_planned}
use Rattle.project_parts.proofs.plan_now.planned_of_named.Goals as goal

pub returns : goal.returns
returns c =
    c.in_ok-plan.ensures
    ∙ named_planned c.args.controller c.args.devices.now c.args.messages.now c.by-named.result (nodes_of c.deref.result.now)
    c.by-named.ensures (ap nodes_of c.deref.ensures.value ∙ c.in_ok-nodes.ensures)
