-- What the line of an edit asks (this profile's own).
use Rattle.std.specs.Prelude.{Some}
use Rattle.base.specs.Lines.{line_count}
use Rattle.project_edits.specs.declared.edit.Edit.{Edit}
use Rattle.project_edits.specs.declared.edit.Edit.TheVariants as edit
use Rattle.script_commands.specs.declared.request.Request.{Request}
use Rattle.script_commands.specs.declared.request.Request.TheVariants.{Edit as EditAsked, Block}

-- the lines of an EDS, or the edit
abbrev pub asks : Edit → Request
asks (edit.Eds name text) = Block (Some name) (line_count text)
asks other = EditAsked other
