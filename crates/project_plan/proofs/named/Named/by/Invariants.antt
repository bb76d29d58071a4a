use Rattle.std.proofs.Common.{◌≡◌, ◌||◌, ℕ}
use Rattle.std.specs.List.{list_any}
use Rattle.project_messages.specs.Messages.{by_name, is_of_messages, is_of_message}
use Rattle.project_plan.specs.Named.{is_flagged}
use Rattle.project_plan.proofs.named.Named.by.Given as goal

abbrev pub invariant-loop-name : goal.invariant-loop-name
invariant-loop-name l = (node : ℕ)
    → (is_flagged l.named node || list_any (λ e. is_of_message node e.1) (by_name l._name-iterator))
    ≡ is_of_messages node l.messages
