use Rattle.std.proofs.Common.{take}
use Rattle.device_agenda.specs.LowBytes.{AreDeafBeyond}
use Rattle.bus_devices.proofs.block.low_bytes_of.Given as goal

-- they are those of the devices so far
abbrev pub invariant-loop-device : goal.invariant-loop-device
invariant-loop-device l = AreDeafBeyond l.low_bytes (take l.device-index l.devices)
