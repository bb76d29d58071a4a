use Rattle.std.proofs.Common.{◌≡◌, ℕ, true, Bool, Some, None, rules, arith}
use Rattle.pdo_choices.specs.Identifiers.{is_free_identifier}
use Rattle.pdo_choices.specs.Taken.{had_in}
use Rattle.pdo_choices.proofs.LeastLemmas.{is_least_free}
use Rattle.pdo_choices.proofs.identifiers.least_of_pool.Goals as goal

pub returns-then-is_free : goal.returns-then-is_free
returns-then-is_free c =
    let is_free : ℕ → Bool = is_free_identifier (had_in c.args.taken.now) in
    let free : is_free c.loop-number.number ≡ true = search rules in
    is_least_free is_free 0x681 95 (Some c.loop-number.number)
    (omega arith, omega arith, free, c.loop-number.invariant)

pub returns : goal.returns
returns c =
    let is_free : ℕ → Bool = is_free_identifier (had_in c.args.taken.now) in
    is_least_free is_free 0x681 95 None (λ k low below. c.loop-number.invariant k low (omega arith))
