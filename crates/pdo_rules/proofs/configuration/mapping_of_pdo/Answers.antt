use Rattle.std.proofs.Common.{ℕ, ◌+◌, ◌∙◌}
use Rattle.co_dict.specs.Values.{number_at}
use Rattle.pdo_rules.proofs.MappingLemmas.{one_more}
use Rattle.pdo_rules.proofs.configuration.mapping_of_pdo.Goals as goal

pub loop-i-preserved : goal.loop-i-preserved
loop-i-preserved c =
    let word : ℕ → ℕ = λ sub. number_at 4 c.args.dict.now (c.args.object + 512, sub) in
    c.in_ok-push.ensures.items
    ∙ one_more word c.loop-i.entries.items c.loop-i.i c.number_32.result c.number_32.ensures c.loop-i.invariant
