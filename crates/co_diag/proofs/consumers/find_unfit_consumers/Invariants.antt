use Rattle.std.proofs.Common.{◌≡◌, ◌++◌, filter_map, take}
use Rattle.co_diag.specs.Found.{consumer_diagnostic}
use Rattle.co_diag.specs.Times.{times_heard}
use Rattle.co_diag.proofs.consumers.find_unfit_consumers.Given as goal

abbrev pub invariant-loop-consumer : goal.invariant-loop-consumer
invariant-loop-consumer l = l.found.items
    ≡ l.fn.found.items ++ filter_map (consumer_diagnostic (times_heard l.project l.times)) (take l.consumer-index l.consumers)
