use Rattle.std.proofs.Common.{◌<◌, length, arith}
use Rattle.std.proofs.lemmas.List.{length-set}
use Rattle.bus_devices.proofs.OutlookLemmas.{outlook_more}
use Rattle.bus_devices.proofs.block.outlooks_of.Goals as goal

pub loop-place-preserved : goal.loop-place-preserved
loop-place-preserved c =
    let old = c.loop-place.invariant in
    let within : c.loop-place.place < length c.args.devices.now = omega arith in
    record {
      long = simp length-set old.long;
      outlooks = outlook_more c.loop-place.outlooks c.args.devices.now c.loop-place.place c.of.result
          c.index-devices-place.result
          (omega (arith, old.long, c.requires, within)) within (rw c.index-devices-place.is at c.of.ensures)
          old.outlooks;
    }
