use Rattle.std.proofs.Common.{◌∙◌, true}
use Rattle.diag_nodes.proofs.AloneLemmas.{keeps_wanted, wanted_as_made}
use Rattle.diag_nodes.proofs.gathering.keep_as_made.Goals as goal

pub returns : goal.returns
returns c =
    keeps_wanted true c.args.plan.now c.args.found.now c.args.kept.now c.keep_values.new.kept _ _ _ c.id-id.ensures
    c.device-2.ensures (c.in_ok-values.ensures
    ∙ wanted_as_made c.args.plan.now c.args.found.now _ c.given.ensures _ _ _ _ c.id-id.ensures c.device.ensures
    c.in_ok-made.ensures (c.as_slice.ensures.value ∙ c.in_ok-writes.ensures.writes))
    c.in_ok-keep_values.ensures.identifiers c.in_ok-keep_values.ensures.consumers c.in_ok-keep_values.ensures.times
    c.in_ok-keep_values.ensures.counters
