use Rattle.std.proofs.Common.{◌≡◌, ◌≤◌, ◌++◌, length, drop}
use Rattle.real_texts.specs.Naturals.{low_digits}
use Rattle.real_texts.proofs.natural.nine_digits.Given as goal

abbrev pub invariant-loop-at : goal.invariant-loop-at
invariant-loop-at l = record {
  within : l.at ≤ 9;
  long : length l.digits ≡ 9;
  digits : low_digits 9 l.number ≡ low_digits l.at l.left ++ drop l.at l.digits;
}

abbrev pub decreases-loop-at : goal.decreases-loop-at
decreases-loop-at l = l.at
