use Rattle.std.proofs.Common.{◌≡◌, ℕ, ◌||◌, take}
use Rattle.std.specs.BTreeSet.{contains}
use Rattle.std.specs.List.{list_any}
use Rattle.std.specs.Ordering.{nat_cmp}
use Rattle.pdo_choices.specs.Had.{is_at_node}
use Rattle.pdo_findings.proofs.used.use_consumers.Given as goal

-- those of the consumers so far
abbrev pub invariant-loop-consumer : goal.invariant-loop-consumer
invariant-loop-consumer l =
    (n : ℕ) → contains nat_cmp l.numbers n
    ≡ (contains nat_cmp l.fn.numbers n || list_any (is_at_node l.node n) (take l.consumer-index l.consumers))
