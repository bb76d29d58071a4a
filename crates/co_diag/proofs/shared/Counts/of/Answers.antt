use Rattle.std.proofs.Common.{◌≡◌, ◌∙◌, ◌+◌, ◌==◌, ℕ, List, [], ◌∷◌, ◌++◌, filter, length, take, take_all, sym, ap}
use Rattle.std.proofs.Common.{arith}
use Rattle.std.specs.Prelude.{slice_index_or}
use Rattle.std.proofs.lemmas.List.{take_more}
use Rattle.co_diag.specs.Counts.{count_to_two}
use Rattle.co_diag.proofs.CountLemmas.{counted}
use Rattle.co_diag.proofs.shared.Counts.of.Goals as goal

pub loop-identifier-preserved : goal.loop-identifier-preserved
loop-identifier-preserved c =
    let i : ℕ = c.loop-identifier.identifier-index in
    let ids : List ℕ = c.args.identifiers.now in
    let id : ℕ = c.identifier-item.result in
    let more : take (i + 1) ids ≡ take i ids ++ id ∷ [] = take_more ids i id (omega arith)
    ∙ ap (λ (x : ℕ). take i ids ++ x ∷ []) (sym c.identifier-item.is) in
    counted (λ q. slice_index_or c.loop-identifier.counts.had q 0) (λ q. slice_index_or c.count.new.self.had q 0)
    (take i ids) (take (i + 1) ids) id more c.loop-identifier.invariant c.count.ensures

pub returns : goal.returns
returns c q =
    c.loop-identifier.invariant q
    ∙ ap (λ (ids : List ℕ). count_to_two (length (filter (λ n. n == q) ids)))
    (take_all c.loop-identifier.identifier-index c.args.identifiers.now (omega arith))
