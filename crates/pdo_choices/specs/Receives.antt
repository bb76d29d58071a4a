-- What the receives of a message name: its RPDO and its event time at a node.
use Rattle.std.specs.Prelude.{ℕ, ◌==◌, Bool, false, ◌&&◌, if◌then◌else◌, Option, Some, None, option_and_then}
use Rattle.std.specs.Option.{option_map_or}
use Rattle.std.specs.List.{list_any}
use Rattle.project_messages.specs.declared.linked.Linked.{Linked}
use Rattle.project_messages.specs.Messages.{receive_at}
use Rattle.project_messages.specs.declared.receive.Receive.{Receive as Received}

-- the RPDO that a receive of a message names for a node; None where the plan gives it
abbrev pub rpdo_named : Linked → ℕ → Option ℕ
rpdo_named m node = option_and_then (λ (r : Received). if r.rpdo == 0 then None else Some r.rpdo)
    (receive_at m.receives node)

-- it names this one for a node that takes the message
abbrev pub names_rpdo : ℕ → ℕ → Linked → Bool
names_rpdo node number m =
    list_any (λ s. s.0.1 == node) m.sinks && option_map_or (λ named. named == number) (rpdo_named m node) false

-- the event time that a receive of a message gives a node in milliseconds; 0 for the one that its RPDO has
abbrev pub event_named : Linked → ℕ → ℕ
event_named m node = option_map_or (λ (r : Received). r.event) (receive_at m.receives node) 0
