use Rattle.std.proofs.Common.{◌≡◌, List, length, take}
use Rattle.bus_devices.specs.Blocks.{AreEachOf, IsBestOf}
use Rattle.bus_devices.proofs.SenderLemmas.{IsBest}
use Rattle.co_device.specs.Device.{Device}
use Rattle.bus_devices.proofs.block.best_of_each.Given as goal

-- it wins of those so far
abbrev pub invariant-loop-place : goal.invariant-loop-place
invariant-loop-place l = (ds : List Device) → length ds ≡ l.fn.count → AreEachOf IsBestOf l.each ds
    → IsBest l.best (take l.place ds)
