use Rattle.std.proofs.Common.{◌≡◌, ◌++◌, drop, map, take}
use Rattle.device_objects.specs.Consumers.{consumer_after_time}
use Rattle.device_objects.proofs.consumers.expire.Given as goal

-- what is done and what is left give what all give
abbrev pub invariant-loop-consumer : goal.invariant-loop-consumer
invariant-loop-consumer l =
    let step = consumer_after_time l.fn.t in
    take l.consumer-index l.consumers ++ map step (drop l.consumer-index l.consumers) ≡ map step l.fn.consumers
