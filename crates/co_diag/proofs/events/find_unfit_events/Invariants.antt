use Rattle.std.proofs.Common.{◌≡◌, ◌++◌, filter_map}
use Rattle.std.specs.FinMap.{entries}
use Rattle.co_diag.specs.Found.{unfit_event}
use Rattle.co_diag.proofs.events.find_unfit_events.Given as goal

-- with those of the events that are left they are all
abbrev pub invariant-loop-number : goal.invariant-loop-number
invariant-loop-number l = l.found.items ++ filter_map (unfit_event l.library.project) l.number-iterator
    ≡ l.fn.found.items ++ filter_map (unfit_event l.library.project) (entries l.library.project.events)
