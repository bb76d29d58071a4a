use Rattle.std.proofs.Common.{◌≡◌, ◌-◌, ◌*◌, ◌≤◌, ◌++◌, length, drop}
use Rattle.real_texts.specs.Naturals.{low_digits, limbs_number}
use Rattle.real_texts.proofs.natural.push_digits.Given as goal

abbrev pub invariant-loop-at : goal.invariant-loop-at
invariant-loop-at l = record {
  within : l.at ≤ length l.limbs;
  digits : l.text.items ≡ l.fn.text.items ++ low_digits (9 * (length l.limbs - l.at)) (limbs_number (drop l.at l.limbs));
}

abbrev pub decreases-loop-at : goal.decreases-loop-at
decreases-loop-at l = l.at
