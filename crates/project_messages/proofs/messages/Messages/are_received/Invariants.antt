use Rattle.std.proofs.Common.{◌≡◌}
use Rattle.std.specs.FinMap.{entries}
use Rattle.std.specs.List.{list_any}
use Rattle.project_messages.specs.Messages.{by_name, is_received}
use Rattle.project_messages.proofs.messages.Messages.are_received.Given as goal

abbrev pub invariant-loop-name : goal.invariant-loop-name
invariant-loop-name l = list_any (λ e. is_received l.node e.1) (by_name l._name-iterator)
    ≡ list_any (λ e. is_received l.node e.1) (entries l.self)
