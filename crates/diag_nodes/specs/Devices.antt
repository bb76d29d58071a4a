-- The devices of a project's nodes, all of them read, and what walks over the nodes find by them.
use Rattle.std.specs.Prelude.{ℕ, List, [], All, Option, option_and_then}
use Rattle.std.specs.FinMap.{entries}
use Rattle.std.specs.Option.{option_map_or}
use Rattle.co_project.specs.declared.node.Node.{Node}
use Rattle.co_project.specs.Project.{Content}
use Rattle.project_plan.specs.Library.{IsRead, Read}
use Rattle.project_plan.specs.Network.{Member, device_at, member_of}
use Rattle.eds_device.specs.Sheets.{Sheet}
use Rattle.co_project.specs.Tables.{node_at}

-- the device of each node was read
unfoldable pub AreAllRead : Read → Type 0
AreAllRead read = All (λ e. IsRead read e.1.eds) (entries read.project.nodes)

-- what is found of a node, where it has a device
abbrev pub of_node : {X : Type 0} → (ℕ × Member → List X) → Content → ℕ × Node → List X
of_node f p e = option_map_or (λ d. f (member_of e.0 e.1 d)) (device_at p e.1.eds) []

-- the data sheet of the node of a number
abbrev pub device_for : Content → ℕ → Option Sheet
device_for p id = option_and_then (λ (node : Node). device_at p node.eds) (node_at p.nodes id)
