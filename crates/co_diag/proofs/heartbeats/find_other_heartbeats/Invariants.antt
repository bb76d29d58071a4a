use Rattle.std.proofs.Common.{◌≡◌, ◌++◌, filter_map, take}
use Rattle.co_diag.specs.Found.{heartbeat_diagnostic}
use Rattle.co_diag.proofs.heartbeats.find_other_heartbeats.Given as goal

abbrev pub invariant-loop-time : goal.invariant-loop-time
invariant-loop-time l = l.found.items
    ≡ l.fn.found.items ++ filter_map (heartbeat_diagnostic l.project) (take l.time-index l.times)
