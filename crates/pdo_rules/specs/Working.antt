-- The PDOs of a device (CiA 301): their objects, which of them work, and their communication parameters. All times are
-- in microseconds.
use Rattle.std.specs.Prelude.{ℕ, ◌*◌, not, ◌&&◌, nat_lt, Bool, Option, Some, None}
use Rattle.std.specs.Prelude.{is_ok, if◌then◌else◌}
use Rattle.co_dict.specs.PdoChecks.{has_type, is_unsigned8, is_unsigned16, is_unsigned32, mapping_check}
use Rattle.cia301.specs.CobIds.{is_restricted}
use Rattle.co_dict.specs.Shapes.{Shaped}
use Rattle.co_dict.specs.Values.{Values, number_at}
use Rattle.cia301.specs.CobIds.{identifier_in, is_of_base_frames, is_valid}
use Rattle.cia301.specs.TransmissionTypes.{type_of_byte}
use Rattle.cia301.specs.declared.transmission_type.TransmissionType.{TransmissionType}
use Rattle.cia301.specs.PdoObjects.{mapping_object}

-- a communication object is that of a PDO: its COB-ID is an UNSIGNED32, and the count of its mapping an UNSIGNED8
unfoldable pub is_pdo : Shaped → ℕ → Bool
is_pdo shape object = has_type is_unsigned32 shape (object, 1) && has_type is_unsigned8 shape (mapping_object object, 0)

-- ---- which of them work

-- sub-index 1 of the communication object
abbrev pub cob_id_of : Values → ℕ → ℕ
cob_id_of values object = number_at 4 values (object, 1)

-- the identifier of the PDO's frames
abbrev pub identifier_of : Values → ℕ → ℕ
identifier_of values object = identifier_in (cob_id_of values object)

-- the PDO exists, with base frames of an identifier that a PDO may have
unfoldable pub has_frames : ℕ → Bool
has_frames cob_id = is_valid cob_id && is_of_base_frames cob_id && not (is_restricted (identifier_in cob_id))

-- the number of mapped entries: sub-index 0 of the mapping object
abbrev pub count_of : Values → ℕ → ℕ
count_of values object = number_at 1 values (mapping_object object, 0)

-- something is mapped, and a PDO can carry it
unfoldable pub has_mapping : Shaped → Values → ℕ → Bool
has_mapping shape values object =
    nat_lt 0 (count_of values object) && is_ok (mapping_check shape values (mapping_object object)
    (count_of values object))

-- THE PDO WORKS
unfoldable pub works : Shaped → Values → ℕ → Bool
works shape values object = is_pdo shape object && has_frames (cob_id_of values object)
    && has_mapping shape values object

-- ---- its communication parameters

-- the transmission type: sub-index 2; none where that isn't an UNSIGNED8
unfoldable pub transmission_type : Shaped → Values → ℕ → Option TransmissionType
transmission_type shape values object =
    if has_type is_unsigned8 shape (object, 2) then Some (type_of_byte (number_at 1 values (object, 2))) else None

-- the number of an UNSIGNED16; 0 where the entry isn't one
abbrev pub number_of_unsigned16 : Shaped → Values → ℕ × ℕ → ℕ
number_of_unsigned16 shape values place = if has_type is_unsigned16 shape place then number_at 2 values place else 0

-- the inhibit time: sub-index 3, in multiples of 100 microseconds; 0 is none
unfoldable pub inhibit_time : Shaped → Values → ℕ → ℕ
inhibit_time shape values object = 100 * number_of_unsigned16 shape values (object, 3)

-- the event time: sub-index 5, in milliseconds; 0 is none
unfoldable pub event_time : Shaped → Values → ℕ → ℕ
event_time shape values object = 1000 * number_of_unsigned16 shape values (object, 5)

-- the SYNC start value: sub-index 6; 0, also where that isn't an UNSIGNED8, is none
unfoldable pub sync_start : Shaped → Values → ℕ → ℕ
sync_start shape values object = if has_type is_unsigned8 shape (object, 6) then number_at 1 values (object, 6) else 0
