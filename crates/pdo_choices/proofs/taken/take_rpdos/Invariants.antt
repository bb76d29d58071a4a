use Rattle.std.proofs.Common.{◌≡◌, ℕ, ◌||◌, take}
use Rattle.std.specs.List.{list_any}
use Rattle.pdo_stations.specs.Flags.{is_flagged}
use Rattle.pdo_choices.specs.Had.{is_at_node}
use Rattle.pdo_choices.proofs.taken.take_rpdos.Given as goal

-- those so far are taken
abbrev pub invariant-loop-consumer : goal.invariant-loop-consumer
invariant-loop-consumer l =
    (node number : ℕ) → is_flagged l.rpdos.flags.items node number
    ≡ (is_flagged l.fn.rpdos.flags.items node number || list_any (is_at_node node number)
    (take l.consumer-index l.consumers))
