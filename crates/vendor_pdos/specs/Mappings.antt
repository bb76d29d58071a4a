-- The mapping of a PDO (CiA 301) as a device has it: where it can be written, and where it serves as it stands.
use Rattle.std.specs.Prelude.{ℕ, ◌+◌, ◌*◌, ◌==◌, ◌&&◌, ◌||◌, nat_le, Bool, List, length}
use Rattle.std.specs.List.{enumerate_from, list_all, list_any, range_with_len}
use Rattle.cia301.specs.PdoObjects.{mapping_object}
use Rattle.co_dict.specs.Values.{number_at}
use Rattle.co_values.specs.declared.form.Width.TheVariants.{Bits8, Bits32}
use Rattle.pdo_stations.specs.declared.as_made.AsMade.{AsMade}
use Rattle.pdo_stations.specs.declared.mapped.Mapped.{Mapped}
use Rattle.vendor_pdos.specs.Parameters.{has_at, is_open, takes_at}

-- what is wanted of a mapping: for each of its positions the entries that serve there, none where nothing can be wanted
abbrev pub Wanted : Type 0
Wanted = List (List Mapped)

-- a mapping entry as a number: index, sub-index and length in bits are one UNSIGNED32, the index in its highest bits
abbrev pub mapped_number : Mapped → ℕ
mapped_number m = 0x10000 * m.index + 0x100 * m.sub + m.bits

-- A MAPPING CAN BE WRITTEN where it has an entry, the PDO is open, and its count and as many entries are writable
unfoldable pub writes_mapping : AsMade → ℕ → ℕ → Bool
writes_mapping device object count =
    nat_le 1 count && is_open device object && takes_at device Bits8 (mapping_object object, 0)
    && list_all (λ sub. takes_at device Bits32 (mapping_object object, sub)) (range_with_len 1 count)

-- one of these stands at a place by default
abbrev pub stands_at : AsMade → List Mapped → ℕ × ℕ → Bool
stands_at device choices place =
    has_at device Bits32 place && list_any (λ m. mapped_number m == number_at 4 device.defaults place) choices

-- A MAPPING STANDS BY DEFAULT where it has an entry, its count is the default, and at each position one that serves
unfoldable pub mapping_stands : AsMade → ℕ → Wanted → Bool
mapping_stands device object wanted =
    nat_le 1 (length wanted) && has_at device Bits8 (mapping_object object, 0)
    && number_at 1 device.defaults (mapping_object object, 0) == length wanted
    && list_all (λ e. stands_at device e.1 (mapping_object object, e.0)) (enumerate_from 1 wanted)

-- it serves
abbrev pub mapping_serves : AsMade → ℕ → Wanted → Bool
mapping_serves device object wanted =
    writes_mapping device object (length wanted) || mapping_stands device object wanted
