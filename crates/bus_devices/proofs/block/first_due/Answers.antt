use Rattle.std.proofs.Common.{◌∙◌}
use Rattle.bus_devices.proofs.DueLemmas.{device_more}
use Rattle.bus_devices.proofs.block.first_due.Goals as goal

pub loop-device-preserved : goal.loop-device-preserved
loop-device-preserved c =
    device_more c.loop-device.first c.earlier-first.result c.next_due.result c.device-item.result c.args.devices.now
    c.loop-device.device-index c.loop-device-test.true c.device-item.is c.next_due.ensures c.earlier-first.ensures
    ∙ c.loop-device.invariant
