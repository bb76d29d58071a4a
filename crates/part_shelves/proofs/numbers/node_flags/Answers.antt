use Rattle.std.proofs.Common.{◌∙◌, ◌||◌, ◌==◌, ap, rules}
use Rattle.std.specs.List.{list_any}
use Rattle.kept_values.proofs.Flags.{none_flagged}
use Rattle.part_shelves.proofs.NumberLemmas.{numbers_known}
use Rattle.part_shelves.proofs.numbers.node_flags.Goals as goal

pub loop-number-init : goal.loop-number-init
loop-number-init c = λ q.
    ap (λ t. t || list_any (λ e. e.0 == q) c.into_iter-number-iterator.result) (none_flagged 256 q)
    ∙ numbers_known c.args.project.now.nodes c.into_iter-number-iterator.result (search rules) q
