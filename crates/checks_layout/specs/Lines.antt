-- The edits that lines lay out (this profile's own): as a session takes them, but that a query is a fault, and the
-- first line of a data sheet without a name at once.
use Rattle.std.specs.Prelude.{ℕ, zero, suc, ◌-◌, List, [], ◌∷◌, ◌++◌, Option, Some, None, Result, Ok, Err}
use Rattle.project_edits.specs.declared.fault.EditFault.{EditFault}
use Rattle.project_edits.specs.declared.fault.EditFault.TheVariants.{Syntax}
use Rattle.project_edits.specs.declared.edit.Edit.{Edit}
use Rattle.project_edits.specs.Eds.{block_lines, eds_edit}
use Rattle.script_commands.specs.declared.request.Request.{Request}
use Rattle.script_commands.specs.declared.request.Request.TheVariants.{Edit as EditAsked, Query as QueryAsked, Block}
use Rattle.script_commands.specs.Requests.{request}
use Rattle.checks_layout.specs.declared.step.Sheet.{Sheet}
use Rattle.checks_layout.specs.declared.step.Step.{Step}

-- a data sheet whose lines come: its name, how many lines are to come, those that came
pub record OpenSheet : Type 0 where
  pub name : List ℕ
  pub left : ℕ
  pub lines : List (List ℕ)

-- the edit that a line completes, if it does, and the data sheet that is open behind it
pub record After : Type 0 where
  pub edit : Option Edit
  pub sheet : Option OpenSheet

-- what the structs hold, without where it lies in memory
abbrev pub sheet_of : Option Sheet → Option OpenSheet
sheet_of None = None
sheet_of (Some s) = Some (record { name = s.name; left = s.left; lines = block_lines s.lines.items })

abbrev pub step_of : Step → After
step_of s = record { edit = s.edit; sheet = sheet_of s.sheet }

-- an edit is complete
abbrev pub whole_edit : Result Edit EditFault → Result After EditFault
whole_edit (Ok edit) = Ok (record { edit = Some edit; sheet = None })
whole_edit (Err fault) = Err fault

-- a data sheet with some of its lines, and the number of those to come
abbrev pub in_sheet : List ℕ → ℕ → List (List ℕ) → Result After EditFault
in_sheet name zero lines = whole_edit (eds_edit name lines)
in_sheet name (suc n) lines =
    Ok (record { edit = None; sheet = Some (record { name = name; left = suc n; lines = lines }) })

-- a request: an edit, or the first line of a data sheet
abbrev pub after_request : Result Request EditFault → Result After EditFault
after_request (Ok (EditAsked edit)) = Ok (record { edit = Some edit; sheet = None })
after_request (Ok (QueryAsked query)) = Err Syntax
after_request (Ok (Block None n)) = Err Syntax
after_request (Ok (Block (Some name) n)) = in_sheet name n []
after_request (Err fault) = Err fault

-- ONE MORE LINE, without the LF and the CRs at its end: it belongs to the open data sheet, or is a request
unfoldable pub after_line : Option OpenSheet → List ℕ → Result After EditFault
after_line None line = after_request (request line)
after_line (Some s) line = in_sheet s.name (s.left - 1) (s.lines ++ line ∷ [])
