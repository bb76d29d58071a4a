use Rattle.std.proofs.Common.{◌≡◌, ◌++◌, take}
use Rattle.std.specs.List.{flat_map}
use Rattle.co_diag.specs.Found.{message_faults}
use Rattle.co_diag.proofs.messages.find_message_faults.Given as goal

abbrev pub invariant-loop-message : goal.invariant-loop-message
invariant-loop-message l = l.found.items
    ≡ l.fn.found.items ++ flat_map message_faults (take l.message-index l.message-items)
