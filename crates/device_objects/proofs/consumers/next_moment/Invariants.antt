use Rattle.std.proofs.Common.{◌≡◌, drop}
use Rattle.base.specs.Moments.{earlier, earliest}
use Rattle.device_objects.specs.Consumers.{moments}
use Rattle.device_objects.proofs.consumers.next_moment.Given as goal

-- the earliest so far, and what is left, give the earliest of all
abbrev pub invariant-loop-consumer : goal.invariant-loop-consumer
invariant-loop-consumer l = earlier l.next (earliest (moments (drop l.consumer-index l.consumers)))
    ≡ earliest (moments l.consumers)
