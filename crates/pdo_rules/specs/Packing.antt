-- PDO mapping (CiA 301): the values of mapped entries in a frame of up to 64 bits, and out of it.
use Rattle.std.specs.Prelude.{ℕ, ◌+◌, ◌/◌, ◌&&◌, List, [], ◌∷◌, length, take, drop, flat_map, is_ok, Bool}
use Rattle.std.specs.Prelude.{if◌then◌else◌}
use Rattle.std.specs.FinMap.{insert}
use Rattle.byteorder.specs.Endian.{little_bytes, little_number}
use Rattle.co_dict.specs.declared.direction.Direction.TheVariants.{Receive}
use Rattle.co_dict.specs.Checks.{is_entry_that}
use Rattle.co_dict.specs.Mappings.{mapped_length, mapped_place}
use Rattle.co_dict.specs.Pdos.{is_mappable}
use Rattle.co_dict.specs.Shapes.{Shaped}
use Rattle.co_dict.specs.Values.{Values, number_at}
use Rattle.co_dict.specs.WriteCheck.{write_check}
use Rattle.pdo_rules.specs.Bits.{low_bits, number_of}

-- as many bytes as bits begin
abbrev pub bytes_begun : ℕ → ℕ
bytes_begun bits = (bits + 7) / 8

-- ---- into a frame

-- the bits of a mapped entry: as many of its number as the mapping says
abbrev pub entry_bits : Values → ℕ → List ℕ
entry_bits values entry = low_bits (mapped_length entry) (number_at 8 values (mapped_place entry))

-- the bits of a PDO: those of each mapped entry at the next free position
abbrev pub packed_bits : Values → List ℕ → List ℕ
packed_bits values mapping = flat_map (entry_bits values) mapping

-- eight bits to a byte, the lowest first, up to eight bytes; and how many of them the PDO has
unfoldable pub payload_of : Values → List ℕ → List ℕ × ℕ
payload_of values mapping = (
  little_bytes 8 (number_of (packed_bits values mapping)),
  bytes_begun (length (packed_bits values mapping)),
)

-- ---- out of a frame

-- the bits of a frame, from position 0 on; those that it lacks are 0
abbrev pub frame_bits : List ℕ → List ℕ
frame_bits bytes = low_bits 64 (little_number 8 bytes)

-- those of a mapping entry at a position
unfoldable pub bits_for : ℕ → ℕ → List ℕ → List ℕ
bits_for entry position bits = take (mapped_length entry) (drop position bits)

-- the value that bits are: as many bytes as they begin
abbrev pub value_of_bits : List ℕ → List ℕ
value_of_bits bits = little_bytes (bytes_begun (length bits)) (number_of bits)

-- a mapping entry of an RPDO names an entry of the device: one is there that RPDOs can map; else it is a dummy
abbrev pub names_entry : Shaped → ℕ → Bool
names_entry shape entry = is_entry_that (is_mappable Receive) shape (mapped_place entry)

-- the device takes the bits for that entry, where it may be given their value; for a dummy it takes none
unfoldable pub takes : Shaped → ℕ → List ℕ → Values → Bool
takes shape entry bits values =
    names_entry shape entry && is_ok (write_check shape values (mapped_place entry) (value_of_bits bits))

-- where it does, the entry gets the value
unfoldable pub with_bits : Shaped → ℕ → List ℕ → Values → Values
with_bits shape entry bits values = if takes shape entry bits values
    then insert values (mapped_place entry) (value_of_bits bits) else values

-- what stands after each entry of a mapping had its turn, with the bits behind those of the entries before it
abbrev pub after_entries : {S : Type 0} → (ℕ → List ℕ → S → S) → ℕ → List ℕ → List ℕ → S → S
after_entries turn position [] bits s = s
after_entries turn position (entry ∷ mapping) bits s =
    after_entries turn (position + mapped_length entry) mapping bits (turn entry (bits_for entry position bits) s)

-- a device takes a frame by a mapping: each entry is judged by what stands in its turn
abbrev pub after_payload : Shaped → List ℕ → List ℕ → Values → Values
after_payload shape mapping bytes values = after_entries (with_bits shape) 0 mapping (frame_bits bytes) values
