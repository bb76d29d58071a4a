use Rattle.std.proofs.Common.{◌≡◌, ◌++◌, filter_map, take}
use Rattle.co_diag.specs.Found.{counter_diagnostic}
use Rattle.co_diag.proofs.counters.find_other_counters.Given as goal

abbrev pub invariant-loop-counter : goal.invariant-loop-counter
invariant-loop-counter l = l.found.items
    ≡ l.fn.found.items ++ filter_map (counter_diagnostic l.project.sync_counter) (take l.counter-index l.counters)
