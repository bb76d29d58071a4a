-- PDO mapping (CiA 301): what the entries of a mapping object name.
use Rattle.std.specs.Prelude.{ℕ, ◌/◌, ◌%◌, ◌==◌, ◌&&◌, Bool, false, List, map, sum_by, Option, None, option_and_then}
use Rattle.std.specs.Prelude.{if◌then◌else◌}
use Rattle.std.specs.FinMap.{get}
use Rattle.std.specs.List.{range_with_len}
use Rattle.std.specs.Option.{option_map_or, option_or}
use Rattle.base.specs.Ranges.{is_between}
use Rattle.co_values.specs.Types.{modelled_type, width_bits}
use Rattle.co_dict.specs.declared.direction.Direction.{Direction}
use Rattle.co_dict.specs.declared.direction.Direction.TheVariants.{Transmit, Receive}
use Rattle.co_dict.specs.declared.entry.Entry.{Entry}
use Rattle.co_dict.specs.Pdos.{is_mappable}
use Rattle.co_dict.specs.Shapes.{Shaped, is_dummy_allowed}
use Rattle.co_dict.specs.Values.{Values, number_at}

-- a mapping entry has the index, the sub-index and the length in bits of what it maps, as 20020010h
abbrev pub mapped_place : ℕ → ℕ × ℕ
mapped_place entry = (entry / 0x10000, entry / 0x100 % 0x100)

abbrev pub mapped_length : ℕ → ℕ
mapped_length entry = entry % 0x100

-- the bits that mapping entries take in a frame
abbrev pub mapping_bits : List ℕ → ℕ
mapping_bits entries = sum_by mapped_length entries

-- the mapping entries of an object, from sub 1 to the count
abbrev pub mapping_of : Values → ℕ → ℕ → List ℕ
mapping_of values object count = map (λ sub. number_at 4 values (object, sub)) (range_with_len 1 count)

-- the direction of the PDO that a mapping object is of
abbrev pub direction_of : ℕ → Direction
direction_of object = if is_between 0x1600 0x17FF object then Receive else Transmit

-- the bits of an entry that a PDO of a direction can map
abbrev pub width_in_pdo : Direction → Entry → Option ℕ
width_in_pdo direction entry = if is_mappable direction entry then width_bits entry.kind else None

-- the bits of a dummy entry: its index is the code of a data type, its sub-index is 0, and RPDOs alone map it, where
-- the device allows it
abbrev pub dummy_width : Direction → Shaped → ℕ × ℕ → Option ℕ
dummy_width Transmit shape place = None
dummy_width Receive shape place = if place.1 == 0 && is_dummy_allowed shape place.0
    then width_bits (modelled_type place.0) else None

-- the bits of what a mapping entry of a direction can name: an entry of the device, else a dummy
abbrev pub width_mapped : Direction → Shaped → ℕ × ℕ → Option ℕ
width_mapped direction shape place = option_or (option_and_then (width_in_pdo direction) (get shape.entries place))
    (dummy_width direction shape place)

-- a mapping entry names what a PDO of a direction can map, in its whole length
abbrev pub can_be_mapped : Direction → Shaped → ℕ → Bool
can_be_mapped direction shape entry = option_map_or (λ bits. bits == mapped_length entry)
    (width_mapped direction shape (mapped_place entry)) false
