use Rattle.std.proofs.Common.{ap, sym, ◌∙◌}
use Rattle.can_frame.specs.Identifiers.{sdo_request_id}
use Rattle.device_agenda.proofs.StirLemmas.{dark_reach, no_service, reach_of}
use Rattle.device_agenda.proofs.stirring.stirring.Goals as goal

pub returns-then-not-has_power : goal.returns-then-not-has_power
returns-then-not-has_power c = dark_reach c.none.result c.args.device.now (sym c.has_power.ensures
    ∙ c.if-not-has_power.true)

pub returns : goal.returns
returns c =
    reach_of c.args.device.now c.with-reach.result c.with_sync-reach.result c.with_producers-reach.result
    c.with_rpdos.result
    (no_service c.with.result c.with-reach.result c.nmt.result c.sdo_request.result
    c.args.device.now.number c.nmt.ensures (c.sdo_request.ensures
    ∙ ap sdo_request_id c.number.ensures) c.with.ensures.with c.with-reach.ensures.kept c.with-reach.ensures.with)
    c.with_sync-reach.ensures.kept c.with_sync-reach.ensures.sync
    c.with_producers-reach.ensures.kept (rw c.consumers.ensures at c.with_producers-reach.ensures.producers)
    c.with_rpdos.ensures.kept (rw c.rpdos.ensures at c.with_rpdos.ensures.rpdos)
