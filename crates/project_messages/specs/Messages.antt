-- The messages of a project: what each sends, who takes it, and by which RPDO (this profile's own).
use Rattle.std.specs.Prelude.{◌≡◌, ℕ, Bool, true, not, ◌&&◌, ◌||◌, ◌==◌, nat_le, All, List, [], length, map, Option, Some}
use Rattle.std.specs.Prelude.{None, is_some, option_and_then, Vec}
use Rattle.std.specs.declared.cmp.Ordering.{Ordering}
use Rattle.std.specs.Ordering.{nat_cmp, ordering_then}
use Rattle.std.specs.Cmp.Lexicographic.{slice_cmp}
use Rattle.std.specs.Map.{lookup, keys_of, remove_entry}
use Rattle.std.specs.BTreeMap.{is_at, insert_entry}
use Rattle.std.specs.FinMap.{FinMap, contains_key, entries, get, insert, len}
use Rattle.std.specs.List.{list_any}
use Rattle.std.specs.List.Sorted.{IsStrictlySortedBy}
use Rattle.std.specs.Option.{option_map_or}
use Rattle.base.specs.Ranges.{is_between, AreIndices}
use Rattle.base.specs.Tables.{Each}
use Rattle.project_messages.specs.declared.linked.Linked.{Linked}
use Rattle.project_messages.specs.declared.message.Message.{Message}
use Rattle.project_messages.specs.declared.receive.Receive.{Receive}
use Rattle.cia301.specs.Limits.{is_node_number, is_pdo_number}

-- names in the order of their bytes
abbrev pub name_cmp : List ℕ → List ℕ → Ordering
name_cmp = slice_cmp nat_cmp

-- the sinks of a message stand by position, and then by node
abbrev pub seat_cmp : ℕ × ℕ → ℕ × ℕ → Ordering
seat_cmp a b = ordering_then (nat_cmp a.0 b.0) (nat_cmp a.1 b.1)

-- each message with its sources, sinks and receives by its name
abbrev pub Named : Type 0
Named = FinMap name_cmp Linked

-- the message of a name with its sources, sinks and receives
abbrev pub message_at : Named → List ℕ → Option Linked
message_at messages name = get messages name

-- the entry of the sender that stands at a position
abbrev pub source_at : List (ℕ × (ℕ × ℕ)) → ℕ → Option (ℕ × ℕ)
source_at sources position = lookup (is_at (nat_cmp position)) sources

-- the entry of a node that takes what stands at a position
abbrev pub sink_at : List ((ℕ × ℕ) × (ℕ × ℕ)) → ℕ → ℕ → Option (ℕ × ℕ)
sink_at sinks position node = lookup (is_at (seat_cmp (position, node))) sinks

-- by which RPDO a node takes a message, where that is said
abbrev pub receive_at : List (ℕ × Receive) → ℕ → Option Receive
receive_at receives node = lookup (is_at (nat_cmp node)) receives

-- a message of a name has a source at a position
abbrev pub has_source : Named → List ℕ → ℕ → Bool
has_source messages name position = is_some (option_and_then (λ (l : Linked). source_at l.sources position)
    (get messages name))

-- and a sink of a node there
abbrev pub has_sink : Named → List ℕ → ℕ → ℕ → Bool
has_sink messages name position node = is_some (option_and_then (λ (l : Linked). sink_at l.sinks position node)
    (get messages name))

-- and a receive of a node
abbrev pub has_receive : Named → List ℕ → ℕ → Bool
has_receive messages name node = is_some (option_and_then (λ (l : Linked). receive_at l.receives node)
    (get messages name))

-- there are at most 1,024 messages: no new name can have one
abbrev pub is_full_for : Named → List ℕ → Bool
is_full_for messages name = nat_le 1024 (len messages) && not (contains_key messages name)

-- a node sends a message, or takes a part of it
abbrev pub is_of_message : ℕ → Linked → Bool
is_of_message node linked = (linked.message.node == node) || list_any (λ s. s.0.1 == node) linked.sinks

-- some message does
abbrev pub is_of_messages : ℕ → Named → Bool
is_of_messages node messages = list_any (λ e. is_of_message node e.1) (entries messages)

-- a message has a receive of a node
abbrev pub is_received : ℕ → Linked → Bool
is_received node linked = list_any (λ r. r.0 == node) linked.receives

-- some message does
abbrev pub are_received : ℕ → Named → Bool
are_received node messages = list_any (λ e. is_received node e.1) (entries messages)

-- a message has a receive
abbrev pub has_receives : Linked → Bool
has_receives linked = not (length linked.receives == 0)

-- some message does
abbrev pub have_receives : Named → Bool
have_receives messages = list_any (λ e. has_receives e.1) (entries messages)

-- ---- changes

abbrev pub linked_to : Option Linked → Message → Linked
linked_to None message = record { message = message; start = 0; sources = []; sinks = []; receives = [] }
linked_to (Some known) message = record known { message = message }

-- the messages, where a name gets a message: a known one keeps its SYNC start value, its sources, its sinks and its
-- receives
abbrev pub with_message : Named → List ℕ → Message → Named
with_message messages name message = insert messages name (linked_to (message_at messages name) message)

-- the messages, where that of a name, if it is there, is another one
abbrev pub with_changed : (Linked → Linked) → Named → List ℕ → Named
with_changed change messages name = option_map_or (λ known. insert messages name (change known))
    (get messages name) messages

-- it gets a SYNC start value
abbrev pub with_start : ℕ → Linked → Linked
with_start start linked = record linked { start = start }

-- it gets a source, in place of the one that stands there
abbrev pub with_source : ℕ → ℕ × ℕ → Linked → Linked
with_source position place linked = record linked { sources = insert_entry nat_cmp linked.sources position place }

-- it loses a source
abbrev pub without_source : ℕ → Linked → Linked
without_source position linked = record linked { sources = remove_entry (is_at (nat_cmp position)) linked.sources }

-- it gets a sink of a node, in place of the one that the node has there
abbrev pub with_sink : ℕ → ℕ → ℕ × ℕ → Linked → Linked
with_sink position node place linked = record linked {
  sinks =
      insert_entry seat_cmp linked.sinks (position, node) place;
}

-- it loses a sink
abbrev pub without_sink : ℕ → ℕ → Linked → Linked
without_sink position node linked = record linked {
  sinks =
      remove_entry (is_at (seat_cmp (position, node))) linked.sinks;
}

-- it gets a receive of a node, in place of the one that the node has
abbrev pub with_receive : ℕ → Receive → Linked → Linked
with_receive node receive linked = record linked { receives = insert_entry nat_cmp linked.receives node receive }

-- it loses a receive
abbrev pub without_receive : ℕ → Linked → Linked
without_receive node linked = record linked { receives = remove_entry (is_at (nat_cmp node)) linked.receives }

module _ {A X : Type 0} where
  -- a map by names as contracts see it
  abbrev pub by_name : List (Vec ℕ A × X) → List (List ℕ × X)
  by_name entries = map (λ e. (e.0.items, e.1)) entries

-- ---- what every message keeps to

-- its sender's number is 1 to 127, its TPDO 1 to 512, its identifier at most 7FFh; its type has 8 bits, its inhibit
-- time and its event timer have 16
unfoldable pub IsMessage : Message → Type 0
IsMessage m =
    (is_node_number m.node ≡ true) × (is_pdo_number m.tpdo ≡ true) × (is_between 0 0x7FF m.cob ≡ true)
    × (is_between 0 0xFF m.transmission ≡ true) × (is_between 0 0xFFFF m.inhibit ≡ true)
    × (is_between 0 0xFFFF m.event ≡ true)

-- a SYNC start value: the number of a SYNC, or 0 for any (CiA 301, PDO communication parameters)
abbrev pub is_start : ℕ → Bool
is_start n = is_between 0 240 n

-- a position of a source or sink: 1 to 64
abbrev pub is_position : ℕ → Bool
is_position n = is_between 1 64 n

-- sources by position, each once
unfoldable pub AreSources : List (ℕ × (ℕ × ℕ)) → Type 0
AreSources sources = IsStrictlySortedBy nat_cmp (keys_of sources) × All (λ e. is_position e.0 ≡ true) sources
    × All (λ e. AreIndices e.1.0 e.1.1) sources

-- a sink: the position, the number of its node, and its entry
abbrev pub IsSink : (ℕ × ℕ) × (ℕ × ℕ) → Type 0
IsSink sink = (is_position sink.0.0 ≡ true) × (is_node_number sink.0.1 ≡ true) × AreIndices sink.1.0 sink.1.1

-- sinks by position and node, each once
unfoldable pub AreSinks : List ((ℕ × ℕ) × (ℕ × ℕ)) → Type 0
AreSinks sinks = IsStrictlySortedBy seat_cmp (keys_of sinks) × All IsSink sinks

-- the RPDO of a receive: its number, 1 to 512, or 0 for the one that the plan gives
abbrev pub is_rpdo_or_any : ℕ → Bool
is_rpdo_or_any n = is_between 0 512 n

-- a receive: the number of its node, its RPDO, and an event time of 16 bits
abbrev pub IsReceive : ℕ × Receive → Type 0
IsReceive r = (is_node_number r.0 ≡ true) × (is_rpdo_or_any r.1.rpdo ≡ true) × (is_between 0 0xFFFF r.1.event ≡ true)

-- receives by node, each once
unfoldable pub AreReceives : List (ℕ × Receive) → Type 0
AreReceives receives = IsStrictlySortedBy nat_cmp (keys_of receives) × All IsReceive receives

unfoldable pub IsLinked : Linked → Type 0
IsLinked linked = IsMessage linked.message × (is_start linked.start ≡ true) × AreSources linked.sources
    × AreSinks linked.sinks × AreReceives linked.receives

-- messages by name
unfoldable pub AreMessages : Named → Type 0
AreMessages messages = Each (λ name linked. IsLinked linked) messages
