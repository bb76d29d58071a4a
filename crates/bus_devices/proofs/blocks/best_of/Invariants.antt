use Rattle.std.proofs.Common.{List, drop}
use Rattle.bus_devices.specs.Blocks.{AreEightsOf, IsBestOf}
use Rattle.bus_devices.proofs.BlockLemmas.{IsKnownSoFar}
use Rattle.bus_devices.proofs.SenderLemmas.{IsBest}
use Rattle.co_device.specs.Device.{Device}
use Rattle.bus_devices.proofs.blocks.best_of.Given as goal

-- it wins of the devices of the blocks so far
abbrev pub invariant-loop-block : goal.invariant-loop-block
invariant-loop-block l = (ds : List Device) → AreEightsOf IsBestOf l.blocks ds
    → IsKnownSoFar IsBestOf (IsBest l.best) (drop l.block-index l.blocks) ds
