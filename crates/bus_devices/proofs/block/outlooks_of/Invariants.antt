use Rattle.std.proofs.Common.{◌≡◌, length, take}
use Rattle.bus_devices.specs.Blocks.{AreOutlooksOf}
use Rattle.bus_devices.proofs.block.outlooks_of.Given as goal

-- they are of those so far
abbrev pub invariant-loop-place : goal.invariant-loop-place
invariant-loop-place l = record {
  long : length l.outlooks ≡ 8;
  outlooks : AreOutlooksOf l.outlooks (take l.place l.devices);
}
