use Rattle.std.proofs.Common.{◌≡◌, ◌==◌, ◌||◌, ℕ}
use Rattle.std.specs.List.{list_any}
use Rattle.project_messages.specs.Messages.{is_of_message}
use Rattle.project_plan.specs.Named.{is_flagged}
use Rattle.project_plan.proofs.named.Named.take_linked.Given as goal

abbrev pub invariant-loop-position : goal.invariant-loop-position
invariant-loop-position l = (node : ℕ)
    → (is_flagged l.self node || list_any (λ s. s.0.1 == node) l._position-iterator)
    ≡ (is_flagged l.fn.self node || is_of_message node l.linked)
