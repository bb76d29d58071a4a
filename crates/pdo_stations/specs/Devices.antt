-- What the devices of a project say of their entries (CiA 301), as the plan of messages asks it.
use Rattle.std.specs.Prelude.{ℕ, ◌==◌, ◌&&◌, ◌||◌, not, Bool, true, false, if◌then◌else◌, List, Option, Some, None}
use Rattle.std.specs.Prelude.{option_map, option_and_then}
use Rattle.std.specs.List.{list_all, range_with_len}
use Rattle.std.specs.Map.{lookup}
use Rattle.std.specs.Option.{option_map_or}
use Rattle.co_values.specs.declared.data_type.DataType.{DataType}
use Rattle.co_values.specs.declared.data_type.DataType.TheVariants.{Unsigned8, Unsigned16, Unsigned24, Unsigned32}
use Rattle.co_values.specs.declared.data_type.DataType.TheVariants.{Unsigned40, Unsigned48, Unsigned56, Unsigned64}
use Rattle.co_values.specs.declared.data_type.DataType.TheVariants.{NotModelled}
use Rattle.co_values.specs.declared.form.Width.{Width}
use Rattle.co_values.specs.declared.form.Width.TheVariants.{Bits8, Bits16, Bits24, Bits32, Bits40, Bits48, Bits56, Bits64}
use Rattle.co_values.specs.Types.{width_bits}
use Rattle.co_dict.specs.declared.direction.Direction.{Direction}
use Rattle.co_dict.specs.declared.entry.Entry.{Entry}
use Rattle.co_dict.specs.Accesses.{is_writable}
use Rattle.co_dict.specs.Pdos.{is_mappable}
use Rattle.eds_device.specs.Entries.{entry_at, defaults_of, dummy_allowed, shape_of}
use Rattle.eds_device.specs.Sheets.{Sheet}
use Rattle.pdo_stations.specs.declared.as_made.AsMade.{AsMade}
use Rattle.cia301.specs.PdoObjects.{mapping_object}

-- a device as its vendor made it: its entries at a node, and what they have by default
abbrev pub as_made : Sheet → ℕ → AsMade
as_made sheet node = record { shape = shape_of sheet node; defaults = defaults_of sheet node }

-- the entry that a node has at an index and sub-index, and whether it allows the dummy of a type; in version 3 each
-- device as its vendor made it, and the node, if there is one, that the manager runs in
pub record Devices : Type 0 where
  pub entry : ℕ → ℕ × ℕ → Option Entry
  pub dummy : ℕ → ℕ → Bool
  pub vendor : Option (ℕ → Option AsMade)
  pub controller : Option ℕ

-- the data sheet of a node
abbrev pub sheet_at : List (ℕ × Sheet) → ℕ → Option Sheet
sheet_at nodes node = lookup (λ n. n == node) nodes

-- the devices of nodes, each the data sheet of its EDS, by the rules of version 3 or not, and the node that the manager
-- runs in; a node that isn't there has no entry
abbrev pub devices_of : Bool → Option ℕ → List (ℕ × Sheet) → Devices
devices_of is_three controller nodes = record {
  entry = λ node place. option_and_then (λ sheet. entry_at sheet node place.0 place.1) (sheet_at nodes node);
  dummy = λ node kind. option_map_or (λ sheet. dummy_allowed sheet.sections kind) (sheet_at nodes node) false;
  vendor = if is_three then Some (λ node. option_map (λ sheet. as_made sheet node) (sheet_at nodes node)) else None;
  controller = controller;
}

-- a type is UNSIGNEDn of this width
abbrev pub is_unsigned : DataType → Width → Bool
is_unsigned Unsigned8 Bits8 = true
is_unsigned Unsigned16 Bits16 = true
is_unsigned Unsigned24 Bits24 = true
is_unsigned Unsigned32 Bits32 = true
is_unsigned Unsigned40 Bits40 = true
is_unsigned Unsigned48 Bits48 = true
is_unsigned Unsigned56 Bits56 = true
is_unsigned Unsigned64 Bits64 = true
is_unsigned kind width = false

-- an entry is an UNSIGNEDn of this width that can be written
abbrev pub takes_unsigned : Width → Entry → Bool
takes_unsigned width entry = is_unsigned entry.kind width && is_writable entry.access

-- a node has such an entry
abbrev pub has_unsigned : Devices → ℕ → Width → ℕ × ℕ → Bool
has_unsigned devices node width place = option_map_or (takes_unsigned width) (devices.entry node place) false

-- the bits of an entry in a PDO, where it is there and BOOLEAN, an integer or a REAL
abbrev pub width_at : Devices → ℕ → ℕ × ℕ → Option ℕ
width_at devices node place = option_and_then (λ (e : Entry). width_bits e.kind) (devices.entry node place)

-- the type of an entry, not modelled where there is none
abbrev pub type_at : Devices → ℕ → ℕ × ℕ → DataType
type_at devices node place = option_map_or (λ (e : Entry). e.kind) (devices.entry node place) NotModelled

-- the producer heartbeat time of the node that the manager runs in: it is the manager's, and no PDO maps it
abbrev pub is_of_manager : Option ℕ → ℕ → ℕ × ℕ → Bool
is_of_manager None node place = false
is_of_manager (Some controller) node place = (node == controller) && ((place.0 == 0x1017) && (place.1 == 0))

-- an entry that is there and that a PDO of a direction can map
abbrev pub can_map : Direction → Devices → ℕ → ℕ × ℕ → Bool
can_map direction devices node place = option_map_or (is_mappable direction) (devices.entry node place) false
    && not (is_of_manager devices.controller node place)

-- a mapping object has room for so many entries: sub 0 and subs 1 to the count
unfoldable pub has_mapping : Devices → ℕ → ℕ → ℕ → Bool
has_mapping devices node object count =
    has_unsigned devices node Bits8 (object, 0)
    && list_all (λ sub. has_unsigned devices node Bits32 (object, sub)) (range_with_len 1 count)

-- a PDO has what its writes name: COB-ID, transmission type, and room for so many mapping entries
abbrev pub has_pdo : Devices → ℕ → ℕ → ℕ → Bool
has_pdo devices node object count =
    has_unsigned devices node Bits32 (object, 1) && has_unsigned devices node Bits8 (object, 2)
    && has_mapping devices node (mapping_object object) count

-- and the inhibit time and the event timer, where they aren't 0
abbrev pub has_times : Devices → ℕ → ℕ → ℕ → ℕ → Bool
has_times devices node object inhibit event =
    (inhibit == 0 || has_unsigned devices node Bits16 (object, 3))
    && (event == 0 || has_unsigned devices node Bits16 (object, 5))

-- and the SYNC start value, where it isn't 0
abbrev pub has_start : Devices → ℕ → ℕ → ℕ → Bool
has_start devices node object start = start == 0 || has_unsigned devices node Bits8 (object, 6)
