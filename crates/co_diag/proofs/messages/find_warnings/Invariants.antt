use Rattle.std.proofs.Common.{◌≡◌, ◌++◌}
use Rattle.std.specs.FinMap.{entries}
use Rattle.std.specs.List.{flat_map}
use Rattle.project_messages.specs.Messages.{by_name}
use Rattle.co_diag.specs.Found.{message_warnings}
use Rattle.co_diag.proofs.messages.find_warnings.Given as goal

-- with those of the messages that are left they are all
abbrev pub invariant-loop-name : goal.invariant-loop-name
invariant-loop-name l = l.found.items ++ flat_map (message_warnings l.project) (by_name l.name-iterator)
    ≡ l.fn.found.items ++ flat_map (message_warnings l.project) (entries l.project.messages)
