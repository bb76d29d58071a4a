use Rattle.std.proofs.Common.{◌≡◌, drop, flat_map}
use Rattle.co_device.specs.Device.{moments}
use Rattle.base.specs.Moments.{earlier, earliest}
use Rattle.bus_devices.proofs.block.first_due.Given as goal

-- the first so far, and what is left, give the first of all
abbrev pub invariant-loop-device : goal.invariant-loop-device
invariant-loop-device l = earlier l.first (earliest (flat_map moments (drop l.device-index l.devices)))
    ≡ earliest (flat_map moments l.devices)
