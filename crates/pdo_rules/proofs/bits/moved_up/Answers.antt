use Rattle.std.proofs.Common.{◌*◌, ◌%◌, ◌^◌, ℕ, ap, ◌∙◌, arith}
use Rattle.pdo_rules.proofs.BitLemmas.{moved_is, moved_bound, moved_fits}
use Rattle.pdo_rules.proofs.bits.moved_up.Goals as goal

pub overflow_cast-result-3 : goal.overflow_cast-result-3
overflow_cast-result-3 c =
    let is = moved_is c.from.result c.args.length c.args.position c.requires in
    let fits = moved_fits c.from.result c.args.length c.args.position c.requires in
    omega (arith, is, fits)

pub returns-clause-moved : goal.returns-clause-moved
returns-clause-moved c =
    moved_is c.from.result c.args.length c.args.position c.requires
    ∙ ap (λ (n : ℕ). 2 ^ c.args.position * (n % 2 ^ c.args.length)) c.from.ensures

pub returns-clause-bound : goal.returns-clause-bound
returns-clause-bound c =
    let is = moved_is c.from.result c.args.length c.args.position c.requires in
    let bound = moved_bound c.from.result c.args.length c.args.position c.requires in
    omega (arith, is, bound)
