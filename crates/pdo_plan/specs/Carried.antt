-- A message by its sources, looked up once: what is wrong with its sinks, and what it is as a clean one.
use Rattle.std.specs.Prelude.{ℕ, ◌==◌, ◌||◌, Bool, true, false, not, List, length, filter_map, Option, Some, option_map}
use Rattle.std.specs.Option.{option_map_or}
use Rattle.co_dict.specs.declared.direction.Direction.TheVariants.{Receive}
use Rattle.project_messages.specs.declared.linked.Linked.{Linked}
use Rattle.pdo_stations.specs.declared.carried.Carried.{Carried}
use Rattle.pdo_choices.specs.declared.clean.Clean.{Clean}
use Rattle.pdo_choices.specs.declared.consumer.Consumer.{Consumer}
use Rattle.pdo_stations.specs.Carried.{carried_at, sent_by, taken_of_all}
use Rattle.pdo_stations.specs.Devices.{Devices, can_map, type_at, width_at}
use Rattle.pdo_plan.specs.Mapping.{misfit}
use Rattle.pdo_choices.specs.Had.{Had}
use Rattle.pdo_choices.specs.Receives.{event_named}
use Rattle.pdo_plan.specs.Plan.{has_named_objects, serves_message}
use Rattle.pdo_choices.specs.Rpdos.{rpdo_by}

-- a sink that isn't there or no RPDO can map, or that is on the sender
abbrev pub is_untakable : Devices → ℕ → (ℕ × ℕ) × (ℕ × ℕ) → Bool
is_untakable devices sender sink = not (can_map Receive devices sink.0.1 sink.1) || (sink.0.1 == sender)

-- a sink without a source at its position, or one that the source doesn't suit
abbrev pub mismatches : Devices → List Carried → (ℕ × ℕ) × (ℕ × ℕ) → Bool
mismatches devices cs sink =
    option_map_or (λ (c : Carried). misfit c.bits c.kind (width_at devices sink.0.1 sink.1)
    (type_at devices sink.0.1 sink.1)) (carried_at cs sink.0.0) true

-- the sender's PDO has what its writes name, or in version 3 serves the message
abbrev pub has_objects_by : Devices → Linked → List Carried → Bool
has_objects_by devices m cs =
    option_map_or (λ made. option_map_or (serves_message m cs) (made m.message.node) false)
    devices.vendor (has_named_objects devices m (length cs))

-- a consumer with its RPDO, what that maps, and its event time
unfoldable pub consumer_by : Had → Devices → Linked → List Carried → Option ℕ → ℕ → Option Consumer
consumer_by had devices m cs identifier node =
    option_map (λ number. record {
      node = node;
      rpdo = number;
      mapping = taken_of_all devices m.sinks node cs;
      event = event_named m node;
    })
    (rpdo_by had devices m cs identifier node)

-- a clean message with its identifier
abbrev pub clean_by : Had → Devices → Linked → List Carried → List ℕ → ℕ → Clean
clean_by had devices m cs nodes id = record {
  message = m.message;
  start = m.start;
  identifier = id;
  mapping = sent_by cs;
  consumers = filter_map (consumer_by had devices m cs (Some id)) nodes;
}
