-- The forms of words and texts, and the limits of numbers (this profile's own).
use Rattle.std.specs.Prelude.{ℕ, Bool, ◌||◌, ◌&&◌, not, List, length, nat_lt, ◌==◌, if◌then◌else◌, Result, Ok}
use Rattle.std.specs.Prelude.{Err}
use Rattle.std.specs.List.{list_any, list_all}
use Rattle.std.specs.Str.{byte, bytes_eq}
use Rattle.base.specs.Blanks.{tab, trim}
use Rattle.base.specs.Ranges.{is_between}
use Rattle.cia301.specs.PdoObjects.{is_of_pdos}
use Rattle.project_edits.specs.declared.fault.EditFault.{EditFault}
use Rattle.project_edits.specs.declared.fault.EditFault.TheVariants.{Range}
use Rattle.cia301.specs.Limits.{bit_rates}

-- ---- words and texts

-- one of `A-Z a-z 0-9 _`
abbrev pub is_name_byte : ℕ → Bool
is_name_byte b = is_between (byte "A") (byte "Z") b || is_between (byte "a") (byte "z") b
    || is_between (byte "0") (byte "9") b || b == byte "_"

-- a name: 1 to 32 of them
abbrev pub is_name : List ℕ → Bool
is_name word = is_between 1 32 (length word) && list_all is_name_byte word

-- a byte 00h to 1Fh other than tab
abbrev pub is_control : ℕ → Bool
is_control b = nat_lt b (byte " ") && not (b == tab)

-- a byte below a space: a control byte or a tab
abbrev pub is_low : ℕ → Bool
is_low b = nat_lt b (byte " ")

-- what a text may be but for blanks at its ends: 1 to 4,000 bytes, none of them a control byte
abbrev pub is_plain : List ℕ → Bool
is_plain text = is_between 1 4000 (length text) && not (list_any is_control text)

-- a text that an edit keeps: a plain one without blanks at its ends
abbrev pub is_text : List ℕ → Bool
is_text text = is_plain text && bytes_eq (trim text) text

-- ---- numbers

-- a number that passes a test
abbrev pub number_within : (ℕ → Bool) → ℕ → Result ℕ EditFault
number_within fits n = if fits n then Ok n else Err Range

-- the number of a node, or 0 for all nodes (CiA 301)
abbrev pub is_node_or_all : ℕ → Bool
is_node_or_all n = is_between 0 127 n

-- an index outside 1400h to 1BFFh, the PDO objects (CiA 301) that the plan of messages owns
abbrev pub is_own_index : ℕ → Bool
is_own_index index = not (is_of_pdos index)

-- a bit rate in kbit/s
abbrev pub is_bit_rate : ℕ → Bool
is_bit_rate n = list_any (λ rate. n == rate) bit_rates

-- a time from power-on in microseconds, up to ten seconds
abbrev pub is_time : ℕ → Bool
is_time n = is_between 0 10000000 n

-- the time between two SYNC messages, or two time stamps, in microseconds, a millisecond to ten seconds; 0 for none
abbrev pub is_period : ℕ → Bool
is_period n = n == 0 || is_between 1000 10000000 n

-- the last number of a SYNC counter (CiA 301, synchronous counter overflow value); 0 for no counter
abbrev pub is_sync_counter : ℕ → Bool
is_sync_counter n = n == 0 || is_between 2 240 n

-- an identifier of 11 bits (ISO 11898-1, base frames), as a message names it: 0 for one that the plan gives
abbrev pub is_identifier : ℕ → Bool
is_identifier n = is_between 0 0x7FF n

-- the number of an event
abbrev pub is_event_number : ℕ → Bool
is_event_number n = is_between 1 10000 n
