-- What a device answers to a write of the objects of its PDOs (CiA 301, PDO communication and mapping parameters). The
-- codes are own.
use Rattle.std.specs.Prelude.{ℕ, ◌-◌, ◌==◌, not, ◌&&◌, nat_lt, Bool, true, false, List, [], ◌∷◌, Result, if◌then◌else◌}
use Rattle.std.specs.List.{list_any, range_with_len}
use Rattle.byteorder.specs.Endian.{little_number}
use Rattle.co_values.specs.declared.form.Form.{Form}
use Rattle.co_values.specs.declared.form.Form.TheVariants.{Unsigned}
use Rattle.co_values.specs.declared.form.Width.TheVariants.{Bits8, Bits16, Bits32}
use Rattle.co_values.specs.Types.{form}
use Rattle.cia301.specs.CobIds.{identifier_in, identifier_with_form, is_restricted, is_valid}
use Rattle.co_dict.specs.declared.abort.Abort.{Abort}
use Rattle.co_dict.specs.Aborts.{unsupported_access, invalid_value, cannot_be_mapped, pdo_length_exceeded}
use Rattle.co_dict.specs.Checks.{is_entry_that, first_refusal}
use Rattle.co_dict.specs.Mappings.{can_be_mapped, direction_of, mapping_bits, mapping_of}
use Rattle.cia301.specs.PdoObjects.{is_mapping_object, is_communication_object}
use Rattle.co_dict.specs.Shapes.{Shaped}
use Rattle.co_dict.specs.Values.{Values, number_at}

abbrev pub is_unsigned8 : Form → Bool
is_unsigned8 (Unsigned Bits8) = true
is_unsigned8 other = false

abbrev pub is_unsigned16 : Form → Bool
is_unsigned16 (Unsigned Bits16) = true
is_unsigned16 other = false

abbrev pub is_unsigned32 : Form → Bool
is_unsigned32 (Unsigned Bits32) = true
is_unsigned32 other = false

-- there is such an entry, of this type
abbrev pub has_type : (Form → Bool) → Shaped → ℕ × ℕ → Bool
has_type is_type shape place = is_entry_that (λ entry. is_type (form entry.kind)) shape place

-- ---- the COB-ID of a PDO

-- sub-index 1 of a communication object; it is UNSIGNED32
abbrev pub is_cob_id : Shaped → ℕ × ℕ → Bool
is_cob_id shape place = is_communication_object place.0 && (place.1 == 1) && has_type is_unsigned32 shape place

-- a PDO that exists has an identifier that no PDO may have
abbrev pub takes_restricted : ℕ → Bool
takes_restricted cob_id = is_valid cob_id && is_restricted (identifier_in cob_id)

-- the frames of a PDO that exists, and goes on to, would change
abbrev pub changes_frames : ℕ → ℕ → Bool
changes_frames old new = is_valid old && is_valid new && not (identifier_with_form old == identifier_with_form new)

abbrev pub cob_id_lines : Shaped → Values → ℕ × ℕ → List ℕ → List (Bool × Abort)
cob_id_lines shape values place bytes =
    (is_cob_id shape place && takes_restricted (little_number 4 bytes), invalid_value)
    ∷ (is_cob_id shape place && changes_frames (number_at 4 values place) (little_number 4 bytes), invalid_value)
    ∷ []

-- ---- the mapping of a PDO

-- the PDO of a mapping object exists: its COB-ID is an UNSIGNED32 with bit 31 clear
abbrev pub has_valid_pdo : Shaped → Values → ℕ → Bool
has_valid_pdo shape values object =
    has_type is_unsigned32 shape (object - 0x200, 1) && is_valid (number_at 4 values (object - 0x200, 1))

-- the mapping is in force: sub-index 0 is an UNSIGNED8 other than 0
abbrev pub is_mapping_enabled : Shaped → Values → ℕ → Bool
is_mapping_enabled shape values object = has_type is_unsigned8 shape (object, 0)
    && nat_lt 0 (number_at 1 values (object, 0))

abbrev pub mapping_lines : Shaped → Values → ℕ × ℕ → List (Bool × Abort)
mapping_lines shape values place =
    (is_mapping_object place.0 && has_valid_pdo shape values place.0, unsupported_access)
    ∷ (is_mapping_object place.0 && nat_lt 0 place.1 && is_mapping_enabled shape values place.0, unsupported_access)
    ∷ []

-- an entry of a mapping object isn't there as UNSIGNED32, or what it names can't be mapped in its whole length
abbrev pub is_bad_entry : Shaped → Values → ℕ → ℕ → Bool
is_bad_entry shape values object sub =
    not (has_type is_unsigned32 shape (object, sub)
    && can_be_mapped (direction_of object) shape (number_at 4 values (object, sub)))

abbrev pub count_lines : Shaped → Values → ℕ → ℕ → List (Bool × Abort)
count_lines shape values object count =
    (nat_lt 64 count, pdo_length_exceeded)
    ∷ (list_any (is_bad_entry shape values object) (range_with_len 1 count), cannot_be_mapped)
    ∷ (nat_lt 64 (mapping_bits (mapping_of values object count)), pdo_length_exceeded)
    ∷ []

-- a PDO can carry the first entries of its mapping object, so many of them
unfoldable pub mapping_check : Shaped → Values → ℕ → ℕ → Result (Unit {0}) Abort
mapping_check shape values object count = first_refusal (count_lines shape values object count)

-- the new count of a mapping object, an UNSIGNED8
abbrev pub is_mapping_count : Shaped → ℕ × ℕ → Bool
is_mapping_count shape place = is_mapping_object place.0 && (place.1 == 0) && has_type is_unsigned8 shape place

abbrev pub new_count_lines : Shaped → Values → ℕ × ℕ → List ℕ → List (Bool × Abort)
new_count_lines shape values place bytes =
    if is_mapping_count shape place then count_lines shape values place.0 (little_number 1 bytes) else []
