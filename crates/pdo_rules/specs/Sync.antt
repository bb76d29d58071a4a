-- SYNC messages (CiA 301): as a device receives them, and as its TPDOs find them in their turn.
use Rattle.std.specs.Prelude.{ℕ, ◌==◌, Bool, false, List, [], ◌∷◌, Option, Some, None}
use Rattle.std.specs.Option.{option_map_or}
use Rattle.pdo_rules.specs.declared.sync.SyncMessage.{SyncMessage}
use Rattle.pdo_rules.specs.declared.sync_seen.SyncSeen.{SyncSeen}

-- the counter of a SYNC is its byte, where it has exactly one
abbrev pub counter_in : List ℕ → Option ℕ
counter_in (counter ∷ []) = Some counter
counter_in bytes = None

-- the SYNC with these bytes
unfoldable pub sync_message : List ℕ → SyncMessage
sync_message bytes = record { counter = counter_in bytes }

-- it has a counter, which is this start value
abbrev pub has_counter : ℕ → SyncSeen → Bool
has_counter start seen = option_map_or (λ counter. counter == start) seen.counter false
