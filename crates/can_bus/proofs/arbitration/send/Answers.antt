use Rattle.std.proofs.Common.{false}
use Rattle.co_device.specs.Device.{without_power}
use Rattle.can_bus.proofs.ArbitrationLemmas.{device_sends, device_within, manager_sends, manager_sends_at, sends_at}
use Rattle.can_bus.proofs.arbitration.send.Goals as goal

pub send-requires-clause-device : goal.send-requires-clause-device
send-requires-clause-device c =
    (sends_at c.args.contender.now c.args.devices.now c.in-Some.i c.in-Some.ensures (without_power false 0)).0

pub send-requires-clause-frame : goal.send-requires-clause-frame
send-requires-clause-frame c =
    device_within c.args.contender.now c.args.devices.now c.in-Some.i c.in-Some.ensures

pub send-requires-in-None : goal.send-requires-in-None
send-requires-in-None c =
    manager_sends_at c.args.contender.now c.args.devices.now c.args.manager.now c.in-None.ensures c.requires

pub returns-in_ok-sent-in-Some-clause-frame : goal.returns-in_ok-sent-in-Some-clause-frame
returns-in_ok-sent-in-Some-clause-frame c =
    device_sends c.args.contender.now c.args.devices.now c.in-Some.i c.in-Some.ensures c.args.manager.now c.in_ok-sent-in-Some.sent
    c.in_ok-sent-in-Some.ensures.frame

pub returns-in-None-clause-frame : goal.returns-in-None-clause-frame
returns-in-None-clause-frame c =
    manager_sends c.args.contender.now c.args.devices.now c.args.manager.now c.in-None.ensures c.send-in-None.result
    c.send-in-None.ensures.frame
