-- The EDS that an edit keeps (its text is CiA 306's; limits and faults are this profile's own).
use Rattle.std.specs.Prelude.{◌≡◌, ◌≤◌, ℕ, Bool, true, ◌||◌, not, List, [], ◌∷◌, ◌++◌, map, length, nat_lt, ◌==◌}
use Rattle.std.specs.Prelude.{Result, Ok, Vec}
use Rattle.std.specs.List.{flat_map, list_any}
use Rattle.base.specs.Blanks.{trim_end}
use Rattle.base.specs.Lines.{is_cr, line_feed, lines_of}
use Rattle.ini_text.specs.Text.{is_bad_byte, is_long_line}
use Rattle.ini_text.specs.Content.{content_of}
use Rattle.eds_device.specs.Faults.{most_entries, device_of}
use Rattle.eds_device.specs.Places.{pairs_of}
use Rattle.project_edits.specs.declared.fault.EditFault.{EditFault}
use Rattle.project_edits.specs.declared.fault.EditFault.TheVariants.{Syntax, Range, Limit, BadByte}
use Rattle.project_edits.specs.declared.edit.Edit.{Edit}
use Rattle.project_edits.specs.declared.edit.Edit.TheVariants.{Eds}
use Rattle.project_edits.specs.Accepts.{unless}
use Rattle.project_edits.specs.Forms.{is_name}

module _ {A : Type 0} where
  -- the lines of a block as contracts see them
  abbrev pub block_lines : List (Vec ℕ A) → List (List ℕ)
  block_lines lines = map (λ line. line.items) lines

-- the most lines of an EDS
abbrev pub most_lines : ℕ
most_lines = 65536

-- the most bytes of an EDS
abbrev pub most_bytes : ℕ
most_bytes = 1048576

-- a line without the CRs at its end, ended by LF
abbrev pub text_line : List ℕ → List ℕ
text_line line = trim_end is_cr line ++ line_feed ∷ []

-- lines as a text: without the CRs at their ends, each ended by LF
abbrev pub text_of : List (List ℕ) → List ℕ
text_of lines = flat_map text_line lines

-- a byte that no line of an EDS may have: one that no text may have, or LF
abbrev pub is_bad_in_line : ℕ → Bool
is_bad_in_line b = is_bad_byte b || (b == line_feed)

-- some line has a bad byte
abbrev pub has_bad_line : List (List ℕ) → Bool
has_bad_line lines = list_any (λ line. list_any is_bad_in_line line) lines

-- some line has over 4,096 bytes, the CRs at its end not counted
abbrev pub has_long_line : List (List ℕ) → Bool
has_long_line lines = list_any is_long_line lines

-- the text gives more entries than a device may have
unfoldable pub has_too_many_entries : List ℕ → Bool
has_too_many_entries text = nat_lt most_entries (length (pairs_of (content_of text).sections))

-- THE EDIT of an EDS from its name and the lines that are handed over, or the first fault that applies
unfoldable pub eds_edit : List ℕ → List (List ℕ) → Result Edit EditFault
eds_edit name lines =
    unless (
    (not (is_name name), Syntax)
    ∷ (nat_lt most_lines (length lines), Range)
    ∷ (has_long_line lines, Range)
    ∷ (nat_lt most_bytes (length (text_of lines)), Range)
    ∷ (has_bad_line lines, BadByte)
    ∷ (has_too_many_entries (text_of lines), Limit)
    ∷ [])
    (Eds name (text_of lines))

-- an EDS as an edit keeps it: its name is one; it has at most 65,536 lines; it is these lines, without CRs at their
-- ends, each ended by LF; and it is the text of a device
pub record IsEds (called text : List ℕ) : Type 0 where
  pub name : is_name called ≡ true
  pub lines : length (lines_of text) ≤ most_lines
  pub ended : text_of (lines_of text) ≡ text
  pub device : device_of text ≡ Ok (content_of text)
