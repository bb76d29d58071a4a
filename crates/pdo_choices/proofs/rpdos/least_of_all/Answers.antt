use Rattle.std.proofs.Common.{◌≡◌, ℕ, true, Bool, Some, None, rules, arith}
use Rattle.pdo_choices.specs.Rpdos.{may_take}
use Rattle.pdo_choices.specs.Taken.{had_in}
use Rattle.pdo_choices.proofs.LeastLemmas.{is_least_free}
use Rattle.pdo_choices.proofs.rpdos.least_of_all.Goals as goal

pub returns-then-may_take : goal.returns-then-may_take
returns-then-may_take c =
    let test : ℕ → Bool = may_take (had_in c.args.taken.now) c.args.device.now c.args.wish.now.linked.now c.args.wish.now.carried.now c.args.wish.now.identifier c.args.node in
    let free : test c.loop-number.number ≡ true = search rules in
    is_least_free test 1 512 (Some c.loop-number.number) (omega arith, omega arith, free, c.loop-number.invariant)

pub returns : goal.returns
returns c =
    let test : ℕ → Bool = may_take (had_in c.args.taken.now) c.args.device.now c.args.wish.now.linked.now c.args.wish.now.carried.now c.args.wish.now.identifier c.args.node in
    is_least_free test 1 512 None (λ k low below. c.loop-number.invariant k low (omega arith))
