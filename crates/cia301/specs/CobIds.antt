-- COB-IDs (CiA 301): an identifier in the low bits, and what bits 31 to 29 say of it.
use Rattle.std.specs.Prelude.{ℕ, ◌/◌, ◌%◌, ◌==◌, nat_lt, ◌||◌, Bool}
use Rattle.base.specs.Ranges.{is_between}

-- bit 31: the object is off, so no frame has the identifier for it
abbrev pub off_bit : ℕ
off_bit = 0x80000000

-- bit 30 of a TPDO: no RTR is allowed
abbrev pub no_rtr_bit : ℕ
no_rtr_bit = 0x40000000

-- bit 31 is clear: the object exists
abbrev pub is_valid : ℕ → Bool
is_valid cob_id = nat_lt cob_id off_bit

-- bit 29 is clear: its frames have an identifier of 11 bits
abbrev pub is_of_base_frames : ℕ → Bool
is_of_base_frames cob_id = cob_id / 0x20000000 % 2 == 0

-- bits 0 to 10: the identifier of 11 bits
abbrev pub identifier_in : ℕ → ℕ
identifier_in cob_id = cob_id % 0x800

-- bits 0 to 29: the identifier with its form
abbrev pub identifier_with_form : ℕ → ℕ
identifier_with_form cob_id = cob_id % 0x40000000

-- the identifiers that no PDO may have (CiA 301, restricted CAN-IDs)
unfoldable pub is_restricted : ℕ → Bool
is_restricted id =
    is_between 0x000 0x07F id || is_between 0x101 0x180 id || is_between 0x581 0x5FF id || is_between 0x601 0x67F id
    || is_between 0x6E0 0x6FF id || is_between 0x701 0x7FF id
