use Rattle.std.proofs.lemmas.Result.{on_ok_weaker}
use Rattle.can_bus.proofs.NodeLemmas.{asked_run}
use Rattle.can_bus.proofs.nodes.run_nodes.Goals as goal

pub returns-clause-asked : goal.returns-clause-asked
returns-clause-asked g c =
    on_ok_weaker c.manage.result (asked_run c.args.t c.args.ended.now c.args.manager.now c.args.devices.now _ _ _ _ _ _
    (rw c.delivery_of-delivery.ensures at c.in_ok-instant.ensures.ran.asked)) c.manage.ensures.asked
