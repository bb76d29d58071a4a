use Rattle.can_frame.specs.Senders.{device_sender}
use Rattle.can_frame.proofs.WinnerLemmas.{winner_more}
use Rattle.co_device.specs.Device.{Device}
use Rattle.bus_devices.proofs.block.winner_of.Goals as goal

pub loop-device-preserved : goal.loop-device-preserved
loop-device-preserved c =
    let item = c.device-item in
    winner_more (λ (d : Device). (device_sender d.number, d.waiting)) c.args.devices.now c.loop-device.device-index item.result
    c.loop-device.best c.contender.result c.keep_winner.new.best c.loop-device-test.true c.loop-device.invariant
    (rw item.is at c.contender.ensures) c.keep_winner.ensures
