use Rattle.std.proofs.Common.{◌≡◌, ℕ, ◌<◌, false, drop}
use Rattle.std.specs.List.{list_any}
use Rattle.can_frame.specs.Identifiers.{error_control_id}
use Rattle.device_objects.specs.Consumers.{expects}
use Rattle.device_agenda.specs.Reach.{Extends, reaches}
use Rattle.device_agenda.proofs.stirring.with_producers.Given as goal

-- those of the consumers so far are in it: who isn't is not expected, if none of those left expects it
abbrev pub invariant-loop-consumer : goal.invariant-loop-consumer
invariant-loop-consumer l =
    Extends l.fn.reach l.reach
    × ((producer : ℕ) → producer < 0x100 → reaches l.reach (error_control_id producer) ≡ false
    → list_any (λ c. expects producer c.entry) (drop l.consumer-index l.consumers) ≡ false
    → list_any (λ c. expects producer c.entry) l.fn.consumers ≡ false)
