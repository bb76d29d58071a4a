use Rattle.std.proofs.Common.{◌≡◌, take}
use Rattle.bus_devices.proofs.lists.copy_all.Given as goal

abbrev pub invariant-loop-device : goal.invariant-loop-device
invariant-loop-device l = l.copies.items ≡ take l.device-index l.devices
