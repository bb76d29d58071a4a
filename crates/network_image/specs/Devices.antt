-- The devices that are kept of the nodes of a project.
use Rattle.std.specs.Prelude.{◌≡◌, ℕ, Some}
use Rattle.co_project.specs.declared.node.Node.{Node}
use Rattle.co_project.specs.Project.{Content as Project}
use Rattle.co_project.specs.Tables.{node_at}
use Rattle.part_shelves.specs.SheetText.{sheet_given}
use Rattle.part_shelves.specs.Slots.{sheet_kept, Slots}

-- they are those of now: each was read from the project's text of its name, by the project's version
abbrev pub HoldsDevices : Project → Slots → Type 0
HoldsDevices p devices = (n : ℕ) (node : Node) → node_at p.nodes n ≡ Some node
    → sheet_kept devices node.eds ≡ sheet_given p node.eds
