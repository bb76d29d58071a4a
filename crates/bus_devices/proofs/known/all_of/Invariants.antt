use Rattle.std.proofs.Common.{List, drop}
use Rattle.bus_devices.specs.Blocks.{AreEightsOf, IsAlarmOf, IsBestOf}
use Rattle.bus_devices.proofs.BlockLemmas.{IsKnownSoFar}
use Rattle.co_device.specs.Device.{Device}
use Rattle.bus_devices.proofs.known.all_of.Given as goal

-- it follows of the devices of the blocks so far
abbrev pub invariant-loop-block : goal.invariant-loop-block
invariant-loop-block l = record {
  alarm : (ds : List Device) → AreEightsOf IsAlarmOf l.blocks ds
      → IsKnownSoFar IsAlarmOf (IsAlarmOf l.all) (drop l.block-index l.blocks) ds;
  best : (ds : List Device) → AreEightsOf IsBestOf l.blocks ds
      → IsKnownSoFar IsBestOf (IsBestOf l.all) (drop l.block-index l.blocks) ds;
}
