use Rattle.std.proofs.Common.{◌≡◌, ℕ, true, Bool, Some, None, rules, arith}
use Rattle.pdo_stations.specs.Flags.{is_spare}
use Rattle.pdo_choices.proofs.LeastLemmas.{is_least_free}
use Rattle.pdo_choices.proofs.rpdos.least_spare.Goals as goal

pub returns-then-is_spare : goal.returns-then-is_spare
returns-then-is_spare c =
    let is_free : ℕ → Bool = is_spare c.args.station.now c.args.taken.now.flags.items c.args.node c.args.count in
    let free : is_free c.loop-number.number ≡ true = search rules in
    is_least_free is_free 1 512 (Some c.loop-number.number) (omega arith, omega arith, free, c.loop-number.invariant)

pub returns : goal.returns
returns c =
    let is_free : ℕ → Bool = is_spare c.args.station.now c.args.taken.now.flags.items c.args.node c.args.count in
    is_least_free is_free 1 512 None (λ k low below. c.loop-number.invariant k low (omega arith))
