use Rattle.std.proofs.Common.{◌≡◌, take}
use Rattle.bus_devices.proofs.lists.same_each.Given as goal

abbrev pub invariant-loop-i : goal.invariant-loop-i
invariant-loop-i l = take l.i l.devices ≡ take l.i l.others
