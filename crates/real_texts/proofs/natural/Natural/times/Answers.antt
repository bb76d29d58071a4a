use Rattle.std.proofs.Common.{arith, ◌≡◌, take_at, take, length, drop, ◌++◌, ap, ◌+◌, ◌*◌, ◌^◌}
use Rattle.real_texts.specs.Naturals.{limbs_number, billion}
use Rattle.real_texts.proofs.Limbs.{limbs_number-push}
use Rattle.real_texts.proofs.natural.Natural.times.Goals as goal
use Rattle.real_texts.proofs.natural.Natural.times.Goals.{then-carry-gt0+in_ok-push, else-carry-gt0}

pub returns : goal.returns
returns c =
    let old = c.self.inside.limbs in
    let new = c.multiply-carry.new.limbs in
    let carry = c.multiply-carry.result in
    let long : length new ≡ old.len = omega (arith, c.multiply-carry.ensures.length, c.as_mut_slice.ensures.len) in
    let same : length old.items ≡ length new = omega (arith, c.multiply-carry.ensures.length, ap length c.as_mut_slice.ensures.value) in
    let e = rw (c.as_mut_slice.ensures.value, c.self.view_is, same) at c.multiply-carry.ensures.value in
    let product : limbs_number new + billion ^ length new * carry ≡ c.args.self * c.args.factor = omega (arith, e) in
    let whole : take old.len (new ++ drop (length new) old.items) ≡ new = take_at new (drop (length new) old.items) old.len long in
    elim c.if-carry-gt0.branch [
      | then-carry-gt0+in_ok-push w ↦ rw (w.limbs-is, w.in_ok-push.ensures.items, whole, limbs_number-push new carry) product
      | else-carry-gt0 w ↦
          let none : carry ≡ 0 = omega arith in
          let exact : limbs_number new ≡ c.args.self * c.args.factor = omega (arith, rw none at product) in
          rw (w.limbs-is, whole) exact
    ]
