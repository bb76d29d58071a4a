use Rattle.std.proofs.Common.{None, refl}
use Rattle.bus_devices.specs.Blocks.{IsBestOf}
use Rattle.bus_devices.proofs.BlockLemmas.{all_known, none_so_far, one_block_known}
use Rattle.bus_devices.proofs.SenderLemmas.{IsBest, best_of_both}
use Rattle.bus_devices.proofs.blocks.best_of.Goals as goal

pub loop-block-init : goal.loop-block-init
loop-block-init c = λ ds known. none_so_far IsBestOf (IsBest None) c.args.blocks.now ds refl known

pub returns : goal.returns
returns c = λ ds known.
    all_known IsBestOf (IsBest c.loop-block.best) c.args.blocks.now c.loop-block.block-index ds c.loop-block-test.false
    (c.loop-block.invariant ds known)

pub loop-block-preserved : goal.loop-block-preserved
loop-block-preserved c = λ ds known.
    one_block_known IsBestOf (IsBest c.loop-block.best) (IsBest c.keep_winner.new.best) _ c.args.blocks.now
    c.loop-block.block-index ds c.loop-block-test.true
    (λ before others won block. best_of_both before others c.loop-block.best _
    c.keep_winner.new.best won block c.keep_winner.ensures) (c.loop-block.invariant ds known)
