-- The sources of a message, looked up once, and what PDOs map of them.
use Rattle.std.specs.Prelude.{ℕ, ◌==◌, ◌&&◌, Bool, false, List, map, filter_map, Option, option_map, option_and_then}
use Rattle.std.specs.Prelude.{is_none, sum_by, find}
use Rattle.std.specs.List.{list_any}
use Rattle.std.specs.Option.{option_map_or, unwrap_or, option_or}
use Rattle.co_dict.specs.declared.direction.Direction.TheVariants.{Transmit}
use Rattle.project_messages.specs.Messages.{sink_at}
use Rattle.pdo_stations.specs.declared.carried.Carried.{Carried}
use Rattle.pdo_stations.specs.declared.mapped.Mapped.{Mapped}
use Rattle.pdo_stations.specs.Devices.{Devices, can_map, type_at, width_at}
use Rattle.pdo_stations.specs.Dummies.{mapped_to, dummy_for}

-- a source is a position with the place of an entry of the sender
abbrev pub carried_by : Devices → ℕ → ℕ × (ℕ × ℕ) → Carried
carried_by devices sender source = record {
  position = source.0;
  place = source.1;
  kind = type_at devices sender source.1;
  bits = width_at devices sender source.1;
  sendable = can_map Transmit devices sender source.1;
}

abbrev pub carried_of : Devices → ℕ → List (ℕ × (ℕ × ℕ)) → List Carried
carried_of devices sender sources = map (carried_by devices sender) sources

-- the source at a position
abbrev pub carried_at : List Carried → ℕ → Option Carried
carried_at cs position = find (λ (c : Carried). c.position == position) cs

-- the bits of a source
abbrev pub bits_in : Carried → ℕ
bits_in c = unwrap_or c.bits 0

abbrev pub total_bits : List Carried → ℕ
total_bits cs = sum_by bits_in cs

-- what the sender's PDO maps
abbrev pub sent_by : List Carried → List Mapped
sent_by cs = map (λ (c : Carried). mapped_to c.place (bits_in c)) cs

-- what a consumer's PDO maps for a source; a sink is a position and a node with the place of an entry there
unfoldable pub taken_by : Devices → List ((ℕ × ℕ) × (ℕ × ℕ)) → ℕ → Carried → Option Mapped
taken_by devices sinks node c =
    option_or (option_map (λ place. mapped_to place (bits_in c)) (sink_at sinks c.position node))
    (option_and_then (dummy_for devices node) c.bits)

-- what it maps for all
unfoldable pub taken_of_all : Devices → List ((ℕ × ℕ) × (ℕ × ℕ)) → ℕ → List Carried → List Mapped
taken_of_all devices sinks node cs = filter_map (taken_by devices sinks node) cs

-- a dummy is needed for a source, and the consumer allows none of that width
abbrev pub lacks_dummy_for : Devices → List ((ℕ × ℕ) × (ℕ × ℕ)) → ℕ → Carried → Bool
lacks_dummy_for devices sinks node c =
    is_none (sink_at sinks c.position node)
    && option_map_or (λ bits. is_none (dummy_for devices node bits)) c.bits false

abbrev pub lacks_some : Devices → List ((ℕ × ℕ) × (ℕ × ℕ)) → ℕ → List Carried → Bool
lacks_some devices sinks node cs = list_any (lacks_dummy_for devices sinks node) cs
