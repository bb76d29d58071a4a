-- The heartbeat consumers of a device (CiA 301, object 1016h), by sub-index.
use Rattle.std.specs.Prelude.{ℕ, ◌+◌, ◌*◌, ◌==◌, not, ◌&&◌, nat_lt, Bool, true, false, List, filter, flat_map}
use Rattle.std.specs.Prelude.{length, map, Some, None, if◌then◌else◌}
use Rattle.std.specs.List.{list_any, range_with_len}
use Rattle.cia301.specs.ConsumerHeartbeatTimes.{consumed_node, consumer_time}
use Rattle.co_dict.specs.PdoChecks.{has_type, is_unsigned32}
use Rattle.co_dict.specs.Shapes.{Shaped}
use Rattle.co_dict.specs.Values.{Values, number_at}
use Rattle.base.specs.Moments.{is_due, moments_of}
use Rattle.device_objects.specs.declared.consumer.Consumer.{Consumer}

-- ---- the consumer heartbeat time of a sub-index

abbrev pub consumer_entry : Values → ℕ → ℕ
consumer_entry values sub = number_at 4 values (0x1016, sub)

-- it expects the heartbeat of this node
abbrev pub expects : ℕ → ℕ → Bool
expects producer entry = (consumed_node entry == producer) && nat_lt 0 (consumer_time entry)

-- ---- the consumers of a device

-- one that hasn't started, and goes by its consumer heartbeat time as that stands
abbrev pub waiting_for_start : Values → ℕ → Consumer
waiting_for_start values sub = record { sub = sub; entry = consumer_entry values sub; moment = None; failed = false }

-- the sub-indices of 1016h from 1 on that are there as UNSIGNED32
unfoldable pub consumers_of : Shaped → Values → List Consumer
consumers_of shape values = map (waiting_for_start values)
    (filter (λ sub. has_type is_unsigned32 shape (0x1016, sub)) (range_with_len 1 255))

-- ---- an error control frame of a node comes at t: it starts the consumer or renews it, and ends its failure

abbrev pub consumer_after_heartbeat : ℕ → ℕ → Consumer → Consumer
consumer_after_heartbeat t producer c = if expects producer c.entry
    then record c { moment = Some (t + 1000 * consumer_time c.entry); failed = false } else c

unfoldable pub consumers_after_heartbeat : ℕ → ℕ → List Consumer → List Consumer
consumers_after_heartbeat t producer consumers = map (consumer_after_heartbeat t producer) consumers

-- one of them expects the heartbeat of this node
unfoldable pub any_expects : ℕ → List Consumer → Bool
any_expects producer consumers = list_any (λ c. expects producer c.entry) consumers

-- ---- failures

abbrev pub any_failed : List Consumer → Bool
any_failed consumers = list_any (λ c. c.failed) consumers

-- some had failed, and none has any more
unfoldable pub is_last_failure_over : List Consumer → List Consumer → Bool
is_last_failure_over before after = any_failed before && not (any_failed after)

-- ---- at its moment a consumer fails

abbrev pub consumer_after_time : ℕ → Consumer → Consumer
consumer_after_time t c = if is_due t c.moment then record c { moment = None; failed = true } else c

unfoldable pub consumers_after_time : ℕ → List Consumer → List Consumer
consumers_after_time t consumers = map (consumer_after_time t) consumers

-- so many fail at t
unfoldable pub failures_at : ℕ → List Consumer → ℕ
failures_at t consumers = length (filter (λ c. is_due t c.moment) consumers)

-- ---- a write of a sub-index: its consumer hasn't started any more, and goes by the new value

abbrev pub consumer_after_write : ℕ → Values → Consumer → Consumer
consumer_after_write sub values c = if c.sub == sub then waiting_for_start values sub else c

unfoldable pub consumers_after_write : ℕ → Values → List Consumer → List Consumer
consumers_after_write sub values consumers = map (consumer_after_write sub values) consumers

-- ---- the moments of those that run

abbrev pub moments : List Consumer → List ℕ
moments consumers = flat_map (λ c. moments_of c.moment) consumers
