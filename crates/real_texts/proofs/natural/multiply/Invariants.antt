use Rattle.std.proofs.Common.{◌≡◌, ℕ, ◌+◌, ◌*◌, ◌^◌, ◌<◌, ◌≤◌, length, take, get_or}
use Rattle.real_texts.specs.Naturals.{limbs_number, AreLimbs, billion}
use Rattle.real_texts.proofs.natural.multiply.Given as goal

abbrev pub invariant-loop-limb : goal.invariant-loop-limb
invariant-loop-limb l = record {
  value : limbs_number (take l.limb-index l.limbs) + l.carry * billion ^ l.limb-index ≡ limbs_number (take l.limb-index l.fn.limbs) * l.factor;
  rest : (k : ℕ) → l.limb-index ≤ k → get_or l.limbs k 0 ≡ get_or l.fn.limbs k 0;
  limbs : AreLimbs l.limbs;
  carry : l.carry < billion;
  within : l.limb-index ≤ length l.fn.limbs;
}
