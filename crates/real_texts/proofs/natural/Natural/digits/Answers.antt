use Rattle.std.proofs.Common.{◌≡◌, replicate, rules}
use Rattle.real_texts.proofs.Digits.{limbs_text}
use Rattle.real_texts.proofs.natural.Natural.digits.Goals as goal

pub returns : goal.returns
returns c =
    let limbs = c.self.inside.limbs.items in
    let text = c.in_ok-text.text.items in
    let front = c.in_ok-zeros.zeros.items in
    let zeros : front ≡ replicate c.args.zeros 48 = search rules in
    let is = rw c.as_slice.ensures.value at c.in_ok-text.ensures in
    let h = limbs_text limbs text front c.args.zeros c.args.self.now c.self.invariant c.self.view_is zeros is in
    record { digits = h.0; enough = h.1; more = h.2 }
