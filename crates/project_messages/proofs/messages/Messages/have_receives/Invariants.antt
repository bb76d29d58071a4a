use Rattle.std.proofs.Common.{◌≡◌}
use Rattle.std.specs.FinMap.{entries}
use Rattle.std.specs.List.{list_any}
use Rattle.project_messages.specs.Messages.{by_name, has_receives}
use Rattle.project_messages.proofs.messages.Messages.have_receives.Given as goal

abbrev pub invariant-loop-name : goal.invariant-loop-name
invariant-loop-name l = list_any (λ e. has_receives e.1) (by_name l._name-iterator)
    ≡ list_any (λ e. has_receives e.1) (entries l.self)
