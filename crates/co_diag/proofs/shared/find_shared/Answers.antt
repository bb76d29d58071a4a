use Rattle.std.proofs.Common.{◌∙◌, ℕ, List, ◌++◌, filter_map, take_all, ap, arith}
use Rattle.std.proofs.lemmas.Grind.{common_steps}
use Rattle.std.proofs.lemmas.List.Elements.{filter_map-append}
use Rattle.diag_lines.specs.declared.diag.Diag.{Diag}
use Rattle.co_diag.specs.Counts.{shared_among}
use Rattle.co_diag.proofs.CountLemmas.{shared_by_counts}
use Rattle.co_diag.proofs.shared.find_shared.Goals as goal

pub loop-identifier-preserved : goal.loop-identifier-preserved
loop-identifier-preserved c = grind (arith, common_steps, filter_map-append)

pub returns : goal.returns
returns c =
    c.loop-identifier.invariant
    ∙ ap (λ (ids : List ℕ). c.args.found.now.items ++ filter_map (shared_among c.of-counts.result.had) ids)
    (take_all c.loop-identifier.identifier-index c.args.identifiers.now (omega arith))
    ∙ ap (λ (ds : List Diag). c.args.found.now.items ++ ds)
    (shared_by_counts c.of-counts.result.had c.args.identifiers.now c.of-counts.ensures)
