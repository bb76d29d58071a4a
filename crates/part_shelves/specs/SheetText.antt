-- What a device is read from: an EDS text (CiA 306), and whether it is read by the rules of version 3.
use Rattle.std.specs.Prelude.{ℕ, Bool, List, Option, option_map}
use Rattle.eds_device.specs.Sheets.{sheet_of, Sheet}
use Rattle.project_edits.specs.Versions.{is_three}
use Rattle.co_project.specs.Project.{Content as Project}
use Rattle.co_project.specs.Tables.{text_at}

pub record SheetText : Type 0 where
  pub is_three : Bool
  pub text : List ℕ

-- a text, read by the rules of version 3 or not
abbrev pub sheet_text : Bool → List ℕ → SheetText
sheet_text is_three text = record { is_three = is_three; text = text }

-- THE DEVICE that is read from it
abbrev pub sheet_made : SheetText → Sheet
sheet_made given = sheet_of given.is_three given.text

-- WHAT THE DEVICE of a name is to be read from now, where the project has a text of that name
abbrev pub sheet_given : Project → List ℕ → Option SheetText
sheet_given p name = option_map (sheet_text (is_three p.version)) (text_at p.texts name)
