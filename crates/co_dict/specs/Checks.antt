-- What a device answers to an access (CiA 301): each check is a table of lines, a test and the abort code by which it
-- refuses.
use Rattle.std.specs.Prelude.{ℕ, ◌==◌, not, ◌&&◌, nat_lt, int_lt, Bool, true, false, List, [], ◌∷◌, ◌++◌, is_none}
use Rattle.std.specs.Prelude.{Result, Ok, Err}
use Rattle.std.specs.FinMap.{get, keys}
use Rattle.std.specs.List.{list_any}
use Rattle.std.specs.Option.{option_map_or}
use Rattle.byteorder.specs.Endian.{little_number}
use Rattle.co_values.specs.declared.form.Form.{Form}
use Rattle.co_values.specs.declared.form.Form.TheVariants.{Flag}
use Rattle.co_values.specs.Types.{fixed_len, form, is_integer, is_modelled}
use Rattle.co_values.specs.Values.{longest_value, number_in}
use Rattle.co_dict.specs.declared.abort.Abort.{Abort}
use Rattle.co_dict.specs.declared.entry.Entry.{Entry}
use Rattle.co_dict.specs.Aborts.{no_object, no_sub_index, unsupported_access, read_only, write_only}
use Rattle.co_dict.specs.Aborts.{length_does_not_match, length_too_high, invalid_value, value_too_low, value_too_high}
use Rattle.co_dict.specs.Accesses.{is_readable, is_writable}
use Rattle.co_dict.specs.Shapes.{Shaped}

-- the first line whose test holds refuses; where none does, the access is granted
abbrev pub first_refusal : List (Bool × Abort) → Result (Unit {0}) Abort
first_refusal [] = Ok tt
first_refusal ((true, abort) ∷ lines) = Err abort
first_refusal ((false, abort) ∷ lines) = first_refusal lines

-- some entry has the index
unfoldable pub has_index : Shaped → ℕ → Bool
has_index shape index = list_any (λ (place : ℕ × ℕ). place.0 == index) (keys shape.entries)

-- there is such an entry, and a test holds of it
abbrev pub is_entry_that : (Entry → Bool) → Shaped → ℕ × ℕ → Bool
is_entry_that test shape place = option_map_or test (get shape.entries place) false

-- ---- who may write and read an entry

-- the object is there, the sub-index is, and its type is modelled
abbrev pub entry_lines : Shaped → ℕ × ℕ → List (Bool × Abort)
entry_lines shape place =
    (not (has_index shape place.0), no_object)
    ∷ (is_none (get shape.entries place), no_sub_index)
    ∷ (is_entry_that (λ entry. not (is_modelled entry.kind)) shape place, unsupported_access)
    ∷ []

abbrev pub access_lines : Shaped → ℕ × ℕ → List (Bool × Abort)
access_lines shape place = entry_lines shape place
    ++ (is_entry_that (λ entry. not (is_writable entry.access)) shape place, read_only) ∷ []

-- the device takes writes of the entry
unfoldable pub access_check : Shaped → ℕ × ℕ → Result (Unit {0}) Abort
access_check shape place = first_refusal (access_lines shape place)

abbrev pub read_lines : Shaped → ℕ × ℕ → List (Bool × Abort)
read_lines shape place = entry_lines shape place
    ++ (is_entry_that (λ entry. not (is_readable entry.access)) shape place, write_only) ∷ []

-- the device gives the entry's value
unfoldable pub read_check : Shaped → ℕ × ℕ → Result (Unit {0}) Abort
read_check shape place = first_refusal (read_lines shape place)

-- ---- the value

-- a type whose values have one length, and another length
abbrev pub has_other_length : ℕ → Entry → Bool
has_other_length size entry = option_map_or (λ length. not (size == length)) (fixed_len entry.kind) false

abbrev pub length_lines : Shaped → ℕ × ℕ → ℕ → List (Bool × Abort)
length_lines shape place size =
    (is_entry_that (has_other_length size) shape place, length_does_not_match)
    ∷ (nat_lt longest_value size, length_too_high)
    ∷ []

-- the entry can have a value of so many bytes
unfoldable pub length_check : Shaped → ℕ × ℕ → ℕ → Result (Unit {0}) Abort
length_check shape place size = first_refusal (length_lines shape place size)

abbrev pub is_flag : Form → Bool
is_flag Flag = true
is_flag other = false

-- a BOOLEAN is 0 or 1
abbrev pub is_no_flag : List ℕ → Entry → Bool
is_no_flag bytes entry = is_flag (form entry.kind) && nat_lt 1 (little_number 1 bytes)

-- the number of an integer is below the low limit; BOOLEAN has no limits
abbrev pub is_below_limit : List ℕ → Entry → Bool
is_below_limit bytes entry =
    is_integer entry.kind && option_map_or (λ number. option_map_or (λ low. int_lt number low) entry.low false)
    (number_in entry.kind bytes) false

abbrev pub is_above_limit : List ℕ → Entry → Bool
is_above_limit bytes entry =
    is_integer entry.kind && option_map_or (λ number. option_map_or (λ high. int_lt high number) entry.high false)
    (number_in entry.kind bytes) false

abbrev pub value_lines : Shaped → ℕ × ℕ → List ℕ → List (Bool × Abort)
value_lines shape place bytes =
    (is_entry_that (is_no_flag bytes) shape place, invalid_value)
    ∷ (is_entry_that (is_below_limit bytes) shape place, value_too_low)
    ∷ (is_entry_that (is_above_limit bytes) shape place, value_too_high)
    ∷ []
