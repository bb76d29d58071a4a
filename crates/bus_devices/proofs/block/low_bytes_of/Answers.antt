use Rattle.bus_devices.proofs.BlockLemmas.{more_deaf}
use Rattle.bus_devices.proofs.block.low_bytes_of.Goals as goal

pub loop-device-preserved : goal.loop-device-preserved
loop-device-preserved c =
    let item = c.device-item in
    more_deaf c.loop-device.low_bytes c.low_bytes.result c.and-low_bytes.result c.args.devices.now
    c.loop-device.device-index item.result c.loop-device-test.true c.and-low_bytes.ensures.devices
    c.loop-device.invariant (rw item.is at c.low_bytes.ensures)
