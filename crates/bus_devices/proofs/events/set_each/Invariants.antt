use Rattle.std.proofs.Common.{◌≡◌, ◌++◌, take, drop, map}
use Rattle.bus_devices.specs.Events.{after_set_at}
use Rattle.bus_devices.proofs.events.set_each.Given as goal

abbrev pub invariant-loop-device : goal.invariant-loop-device
invariant-loop-device l =
    let step = after_set_at l.fn.t l.fn.node l.fn.place l.fn.bytes in
    take l.device-index l.devices ++ map step (drop l.device-index l.devices) ≡ map step l.fn.devices
