use Rattle.bus_devices.proofs.BlockLemmas.{all_known, none_so_far, one_block_known}
use Rattle.bus_devices.specs.Blocks.{IsAlarmOf, IsBestOf}
use Rattle.bus_devices.proofs.known.all_of.Goals as goal

pub loop-block-init : goal.loop-block-init
loop-block-init c =
    let none = c.none-all.result in
    let blocks = c.args.blocks.now in
    record {
      alarm = λ ds known. none_so_far IsAlarmOf (IsAlarmOf none) blocks ds c.none-all.ensures.agenda known;
      best = λ ds known. none_so_far IsBestOf (IsBestOf none) blocks ds c.none-all.ensures.best known;
    }

pub returns : goal.returns
returns c =
    let all = c.loop-block.all in
    let blocks = c.args.blocks.now in
    let i = c.loop-block.block-index in
    let so_far = c.loop-block.invariant in
    record {
      alarm = λ ds known. all_known IsAlarmOf (IsAlarmOf all) blocks i ds c.loop-block-test.false (so_far.alarm ds known);
      best = λ ds known. all_known IsBestOf (IsBestOf all) blocks i ds c.loop-block-test.false (so_far.best ds known);
    }

pub loop-block-preserved : goal.loop-block-preserved
loop-block-preserved c =
    let all = c.loop-block.all in
    let then = c.add.new.self in
    let blocks = c.args.blocks.now in
    let i = c.loop-block.block-index in
    let so_far = c.loop-block.invariant in
    record {
      alarm = λ ds known. one_block_known IsAlarmOf (IsAlarmOf all) (IsAlarmOf then) _ blocks i ds
          c.loop-block-test.true c.add.ensures.alarm (so_far.alarm ds known);
      best = λ ds known. one_block_known IsBestOf (IsBestOf all) (IsBestOf then) _ blocks i ds
          c.loop-block-test.true c.add.ensures.best (so_far.best ds known);
    }
