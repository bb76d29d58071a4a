use Rattle.std.proofs.Common.{◌≡◌, ◌==◌, ℕ, filter, length, take}
use Rattle.std.specs.Prelude.{slice_index_or}
use Rattle.co_diag.specs.Counts.{count_to_two}
use Rattle.co_diag.proofs.shared.Counts.of.Given as goal

abbrev pub invariant-loop-identifier : goal.invariant-loop-identifier
invariant-loop-identifier l = (q : ℕ) → slice_index_or l.counts.had q 0
    ≡ count_to_two (length (filter (λ n. n == q) (take l.identifier-index l.identifiers)))
