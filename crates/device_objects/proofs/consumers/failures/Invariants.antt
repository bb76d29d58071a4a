use Rattle.std.proofs.Common.{◌≡◌, ◌≤◌, length, filter, take}
use Rattle.base.specs.Moments.{is_due}
use Rattle.device_objects.specs.declared.consumer.Consumer.{Consumer}
use Rattle.device_objects.proofs.consumers.failures.Given as goal

-- so many of the first fail
abbrev pub invariant-loop-consumer : goal.invariant-loop-consumer
invariant-loop-consumer l = record {
  count : l.count ≡ length (filter (λ (c : Consumer). is_due l.t c.moment) (take l.consumer-index l.consumers));
  few : l.count ≤ l.consumer-index;
}
