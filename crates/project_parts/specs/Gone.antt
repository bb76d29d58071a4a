-- Parts of what a project doesn't have, and the edits that leave it without something.
use Rattle.std.specs.Prelude.{Bool, true, false, not}
use Rattle.std.specs.FinMap.{contains_key}
use Rattle.project_edits.specs.declared.edit.Edit.{Edit}
use Rattle.project_edits.specs.declared.edit.Edit.TheVariants as edit
use Rattle.co_project.specs.Project.{Content as Project}
use Rattle.project_parts.specs.declared.part.Part.{Part}
use Rattle.project_parts.specs.declared.part.Part.TheVariants as part

-- the device of a name that has no text, or a part of the node of a number that no node has; a plan, a roster
-- and diagnostics are always there, and so is a window: where no event lies in it, it is made anew without steps
abbrev pub is_gone : Project → Part → Bool
is_gone p (part.Device name) = not (contains_key p.texts name)
is_gone p part.Plan = false
is_gone p (part.Writes n) = not (contains_key p.nodes n)
is_gone p (part.Concise n) = not (contains_key p.nodes n)
is_gone p (part.Dcf n) = not (contains_key p.nodes n)
is_gone p part.Roster = false
is_gone p (part.Node n) = not (contains_key p.nodes n)
is_gone p (part.Window i) = false
is_gone p part.Diagnostics = false

-- an edit that is taken leaves the project without a name of an EDS or without a number of a node
abbrev pub drops : Edit → Bool
drops (edit.DropEds name) = true
drops (edit.DropNode id) = true
drops others = false
