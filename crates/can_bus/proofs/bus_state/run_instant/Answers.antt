use Rattle.std.proofs.lemmas.Result.{on_ok_weaker}
use Rattle.can_bus.proofs.InstantLemmas.{asked_instant}
use Rattle.can_bus.proofs.bus_state.run_instant.Goals as goal

pub returns-clause-asked : goal.returns-clause-asked
returns-clause-asked g c =
    let begun = c.in_ok-begin_window.ensures in
    let ran = c.in_ok-run_due.ensures in
    on_ok_weaker c.run_from_delivery.result (asked_instant c.args.t c.args.bus.now c.begin_window.new.bus
    c.run_due.new.bus _ _ _ _ _ _ _ _ begun.ran.state ran.ran.state begun.ran.asked ran.ran.asked) c.run_from_delivery.ensures.asked
