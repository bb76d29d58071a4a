use Rattle.std.proofs.Common.{◌≡◌, ◌<◌, ◌≤◌, length, get_or, ◌∙◌, sym, arith, get_or-set_other, take_all}
use Rattle.real_texts.specs.Naturals.{billion}
use Rattle.real_texts.proofs.Limbs.{AreLimbs-set, product_step, carried}
use Rattle.real_texts.proofs.natural.multiply.Goals as goal

pub overflow_add-product : goal.overflow_add-product
overflow_add-product c =
    let l = c.loop-limb in
    let x : c.from.result < billion = omega (arith, c.from.ensures, l.invariant.limbs l.limb-index) in
    let f : c.from-in-loop-limb.result ≤ billion = omega (arith, c.from-in-loop-limb.ensures, c.requires.factor) in
    omega (arith, carried c.from.result c.from-in-loop-limb.result l.carry x f l.invariant.carry)

pub loop-limb-preserved : goal.loop-limb-preserved
loop-limb-preserved c =
    let l = c.loop-limb in
    let x : c.from.result < billion = omega (arith, c.from.ensures, l.invariant.limbs l.limb-index) in
    let f : c.from-in-loop-limb.result ≤ billion = omega (arith, c.from-in-loop-limb.ensures, c.requires.factor) in
    let most = carried c.from.result c.from-in-loop-limb.result l.carry x f l.invariant.carry in
    let old : get_or c.args.limbs.now l.limb-index 0 ≡ c.from.result = sym (l.invariant.rest l.limb-index (omega arith)) ∙ sym c.from.ensures in
    record {
      value = rw c.from-in-loop-limb.ensures (product_step l.limbs c.args.limbs.now l.limb-index c.args.factor l.carry c.from.result (omega arith) (omega arith) old l.invariant.value);
      rest = λ k h. get_or-set_other l.limbs l.limb-index k _ 0 (λ e. omega arith) ∙ l.invariant.rest k (omega arith);
      limbs = AreLimbs-set l.limbs l.limb-index _ l.invariant.limbs (omega arith);
      carry = omega arith;
      within = omega arith;
    }

pub returns-clause-value : goal.returns-clause-value
returns-clause-value c =
    let l = c.loop-limb in
    let i : l.limb-index ≡ length c.args.limbs.now = omega arith in
    let v = rw i at l.invariant.value in
    rw (take_all (length c.args.limbs.now) l.limbs (omega arith), take_all (length c.args.limbs.now) c.args.limbs.now (omega arith)) at v
