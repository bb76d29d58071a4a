use Rattle.std.proofs.Common.{◌≡◌, ◌==◌, ◌||◌, ℕ}
use Rattle.std.specs.FinMap.{contains_key}
use Rattle.std.specs.List.{list_any}
use Rattle.kept_values.specs.Shelved.{is_flagged}
use Rattle.part_shelves.proofs.numbers.node_flags.Given as goal

abbrev pub invariant-loop-number : goal.invariant-loop-number
invariant-loop-number l = (q : ℕ)
    → (is_flagged l.flags q || list_any (λ e. e.0 == q) l.number-iterator) ≡ contains_key l.project.nodes q
