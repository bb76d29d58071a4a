use Rattle.std.proofs.Common.{◌++◌, arith, append_assoc, ap, sym, ◌∙◌}
use Rattle.real_texts.proofs.Digits.{limb_step}
use Rattle.real_texts.proofs.natural.push_digits.Goals as goal

pub loop-at-preserved : goal.loop-at-preserved
loop-at-preserved c =
    let l = c.loop-at in
    let old = l.invariant.digits in
    record {
      within = omega arith;
      digits = c.in_ok-extend_from_slice.ensures.items
          ∙ rw (c.nine_digits.ensures, old) (append_assoc c.args.text.items _ _)
          ∙ ap (λ t. c.args.text.items ++ t) (sym (limb_step c.args.limbs.now l.at (omega arith) l.invariant.within c.requires));
    }
