use Rattle.std.proofs.Common.{◌≡◌, ◌+◌, ◌*◌, ◌^◌, length}
use Rattle.real_texts.specs.Naturals.{limbs_number, AreLimbs, billion}
use Rattle.real_texts.proofs.natural.Natural.new.Given as goal

abbrev pub invariant-loop-left : goal.invariant-loop-left
invariant-loop-left l = (limbs_number l.limbs.items + billion ^ length l.limbs.items * l.left ≡ l.number) × AreLimbs l.limbs.items

abbrev pub decreases-loop-left : goal.decreases-loop-left
decreases-loop-left l = l.left
