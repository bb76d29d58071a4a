-- What the controller has, the node that the manager runs in: it holds its configuration by itself, and the manager's
-- heartbeat is its own (this profile's own).
use Rattle.std.specs.Prelude.{ℕ, Bool, true, false, List, Option, Some, None, if◌then◌else◌}
use Rattle.std.specs.FinMap.{remove}
use Rattle.co_dict.specs.Shapes.{Shaped}
use Rattle.co_dict.specs.Values.{Values}
use Rattle.concise_dcf.specs.declared.write.Write.{Write}
use Rattle.co_project.specs.Project.{Content, is_controller}
use Rattle.project_plan.specs.Values.{after_writes}

-- the producer heartbeat time (CiA 301, object 1017h)
abbrev pub producer_time : ℕ × ℕ
producer_time = (0x1017, 0)

-- the entries of a device in which the manager runs, or doesn't: there it has no producer heartbeat time
abbrev pub shape_held : Bool → Shaped → Shaped
shape_held true shape = record shape { entries = remove shape.entries producer_time }
shape_held false shape = shape

-- the values of a device from its power-on on: those of its data sheet, and over them each of its writes in turn, where
-- the manager runs in it
abbrev pub defaults_held : Option (List Write) → Values → Values
defaults_held None values = values
defaults_held (Some writes) values = remove (after_writes values writes) producer_time

-- the writes of a node, where the manager runs in it
abbrev pub own_writes : Content → ℕ → List Write → Option (List Write)
own_writes project node writes = if is_controller project node then Some writes else None
