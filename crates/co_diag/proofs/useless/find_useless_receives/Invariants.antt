use Rattle.std.proofs.Common.{◌≡◌, ◌++◌, take}
use Rattle.std.specs.List.{flat_map}
use Rattle.co_diag.specs.Found.{useless_receives}
use Rattle.co_diag.proofs.useless.find_useless_receives.Given as goal

abbrev pub invariant-loop-message : goal.invariant-loop-message
invariant-loop-message l = l.found.items
    ≡ l.fn.found.items ++ flat_map (useless_receives l.library.project) (take l.message-index l.message-items)
