use Rattle.std.proofs.Common.{◌∙◌, arith}
use Rattle.real_texts.proofs.Limbs.{power_most, power_step}
use Rattle.real_texts.proofs.natural.Natural.times_power.Goals as goal

pub pow-requires : goal.pow-requires
pow-requires c = omega (arith, power_most c.args.base c.min-step.result c.args.at_once c.requires.base (omega (arith, c.min-step.ensures)), c.requires.few)

pub times-requires : goal.times-requires
times-requires c = omega (arith, c.pow.ensures, power_most c.args.base c.min-step.result c.args.at_once c.requires.base (omega (arith, c.min-step.ensures)), c.requires.few)

pub loop-left-preserved : goal.loop-left-preserved
loop-left-preserved c =
    let l = c.loop-left in
    rw (c.in_ok-product.ensures, c.pow.ensures) (power_step c.args.base c.min-step.result l.product l.left (omega (arith, c.min-step.ensures)) ∙ l.invariant)
