use Rattle.std.proofs.Common.{length}
use Rattle.bus_devices.proofs.blocks.+run_blocks.Given as goal

abbrev pub decreases-run_blocks : goal.decreases-run_blocks
decreases-run_blocks g l = length l.blocks.now
