use Rattle.std.proofs.lemmas.Result.{on_ok_weaker}
use Rattle.bus_devices.proofs.EventLemmas.{other_goes, own_goes}
use Rattle.bus_devices.proofs.events.power_others.Goals as goal

pub returns-then-number-node-clause-ran : goal.returns-then-number-node-clause-ran
returns-then-number-node-clause-ran g c =
    own_goes c.args.t c.args.devices.now c.args.manager.now c.args.node c.args.on g.P.Asked.seen g.P.Asked.asks
    c.args.shapes.now (rw c.number.ensures at c.if-number-node.true)

pub returns-clause-ran : goal.returns-clause-ran
returns-clause-ran g c =
    on_ok_weaker c.power_each.result
    (other_goes c.args.t c.args.devices.now c.args.manager.now c.args.node c.args.on g.P.Asked.seen g.P.Asked.asks
    c.args.shapes.now c.power_each.new.shapes c.power_each.new.devices
    (rw c.number.ensures at c.if-number-node.false)) c.power_each.ensures.ran
