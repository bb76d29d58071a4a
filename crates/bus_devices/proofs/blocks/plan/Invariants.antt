use Rattle.std.proofs.Common.{◌++◌, List, length}
use Rattle.bus_devices.specs.Blocks.{AreBlocksOf}
use Rattle.bus_devices.specs.declared.block.Block.{Block}
use Rattle.bus_devices.proofs.blocks.plan.Given as goal

-- with blocks of what is left, they are blocks of all
abbrev pub invariant-planning : goal.invariant-planning
invariant-planning l = (others : List Block) → AreBlocksOf others l.rest
    → AreBlocksOf (l.blocks.items ++ others) l.devices

abbrev pub decreases-planning : goal.decreases-planning
decreases-planning l = length l.rest
