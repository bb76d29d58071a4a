use Rattle.std.proofs.Common.{◌∙◌, false}
use Rattle.diag_nodes.proofs.AloneLemmas.{keeps_wanted, wanted_as_planned}
use Rattle.diag_nodes.proofs.gathering.keep_planned.Goals as goal

pub returns : goal.returns
returns c =
    keeps_wanted false c.args.plan.now c.args.found.now c.args.kept.now c.keep_values.new.kept _ _ _ c.id-id.ensures
    c.device.ensures (c.in_ok-values.ensures
    ∙ wanted_as_planned c.args.plan.now c.args.found.now _ c.given.ensures _ c.id-id.ensures)
    c.in_ok-keep_values.ensures.identifiers c.in_ok-keep_values.ensures.consumers c.in_ok-keep_values.ensures.times
    c.in_ok-keep_values.ensures.counters
