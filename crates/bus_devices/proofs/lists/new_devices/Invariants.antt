use Rattle.std.proofs.Common.{◌≡◌, false, map, take}
use Rattle.co_device.specs.Device.{without_power}
use Rattle.bus_devices.proofs.lists.new_devices.Given as goal

abbrev pub invariant-loop-number : goal.invariant-loop-number
invariant-loop-number l = l.devices.items ≡ map (without_power false) (take l.number-index l.numbers)
