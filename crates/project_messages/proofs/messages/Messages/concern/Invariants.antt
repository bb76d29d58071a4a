use Rattle.std.proofs.Common.{◌≡◌}
use Rattle.std.specs.FinMap.{entries}
use Rattle.std.specs.List.{list_any}
use Rattle.project_messages.specs.Messages.{by_name, is_of_message}
use Rattle.project_messages.proofs.messages.Messages.concern.Given as goal

abbrev pub invariant-loop-name : goal.invariant-loop-name
invariant-loop-name l = list_any (λ e. is_of_message l.node e.1) (by_name l._name-iterator)
    ≡ list_any (λ e. is_of_message l.node e.1) (entries l.self)
