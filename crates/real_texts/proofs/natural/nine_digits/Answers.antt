use Rattle.std.proofs.Common.{◌-◌, ◌+◌, ◌%◌, ◌∙◌, arith, length-set}
use Rattle.real_texts.proofs.Digits.{digit_step}
use Rattle.real_texts.proofs.natural.nine_digits.Goals as goal

pub loop-at-preserved : goal.loop-at-preserved
loop-at-preserved c =
    let l = c.loop-at in
    let i = l.invariant in
    record {
      within = omega arith;
      long = length-set l.digits (l.at - 1) (48 + l.left % 10) ∙ i.long;
      digits = digit_step _ l.digits l.at l.left (omega arith) (omega (arith, i.within, i.long)) i.digits;
    }
