use Rattle.std.proofs.Common.{refl}
use Rattle.can_bus.proofs.InstantLemmas.{delivery_state}
use Rattle.can_bus.specs.contracts.bus_state.BusState.{the_view}
use Rattle.can_bus.proofs.bus_state.run_from_delivery.Goals as goal

pub returns-clause-state : goal.returns-clause-state
returns-clause-state g c =
    let ran = c.in_ok-run_nodes.ensures in
    let slot = c.take_ended-ended.ensures in
    rw (← c.bus.view_is)
    (delivery_state c.args.t (the_view c.bus.inside)
    (g.P.Asked.seen c.args.parts.now).image c.take_ended-ended.result c.take_ended-ended.new.wire
    (the_view c.bus.inside).devices c.run_nodes.new.devices c.run_nodes.new.manager c.start_slot.new.bus
    slot.ended refl ran.devices ran.manager slot.wire c.in_ok-start_slot.ensures)
