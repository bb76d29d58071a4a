use Rattle.std.proofs.Common.{◌≡◌, ◌++◌, filter_map}
use Rattle.std.specs.FinMap.{entries}
use Rattle.co_diag.specs.Found.{idle_event}
use Rattle.co_diag.proofs.events.find_idle_events.Given as goal

-- with those of the events that are left they are all
abbrev pub invariant-loop-number : goal.invariant-loop-number
invariant-loop-number l = l.found.items ++ filter_map (idle_event l.project) l.number-iterator
    ≡ l.fn.found.items ++ filter_map (idle_event l.project) (entries l.project.events)
