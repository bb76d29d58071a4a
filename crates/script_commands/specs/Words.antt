-- The words of a command, each read as what it has to be (this profile's own).
use Rattle.std.specs.Prelude.{ℕ, Bool, ◌||◌, List, length, nat_lt, if◌then◌else◌, Result, Ok, Err, ok_or}
use Rattle.std.specs.List.{list_any}
use Rattle.base.specs.Blanks.{is_blank_line, trim}
use Rattle.base.specs.Words.{word, after}
use Rattle.base.specs.Digits.{digits_number}
use Rattle.project_edits.specs.declared.fault.EditFault.{EditFault}
use Rattle.project_edits.specs.declared.fault.EditFault.TheVariants.{Syntax}
use Rattle.project_edits.specs.Forms.{is_control, is_name, is_plain}

-- over 4,096 bytes, or with a control byte
abbrev pub is_bad_line : List ℕ → Bool
is_bad_line line = nat_lt 4096 (length line) || list_any is_control line

-- the first word, where no other follows
abbrev pub last_word : List ℕ → Result (List ℕ) EditFault
last_word rest = if is_blank_line (after rest) then Ok (word rest) else Err Syntax

-- a word that is a name
abbrev pub name : List ℕ → Result (List ℕ) EditFault
name word = if is_name word then Ok word else Err Syntax

-- the number of 1 to `most` digits to a base, letters in any case
abbrev pub number : ℕ → ℕ → List ℕ → Result ℕ EditFault
number base most word = if nat_lt most (length word) then Err Syntax else ok_or (digits_number base word) Syntax

-- 1 to 10 decimal digits
abbrev pub decimal : List ℕ → Result ℕ EditFault
decimal word = number 10 10 word

-- 1 to `most` hexadecimal digits
abbrev pub hexadecimal : ℕ → List ℕ → Result ℕ EditFault
hexadecimal most word = number 16 most word

-- the rest of a line without blanks at its ends, where that is a text
abbrev pub text : List ℕ → Result (List ℕ) EditFault
text rest = if is_plain (trim rest) then Ok (trim rest) else Err Syntax
