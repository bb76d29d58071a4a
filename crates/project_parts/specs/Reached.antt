-- What is brought up to date for a part: the parts that it is made from, in the order in which they are reached, and
-- then itself.
use Rattle.std.specs.Prelude.{ℕ, zero, suc, ◌≤◌, List, [], ◌∷◌, ◌++◌, map, if◌then◌else◌}
use Rattle.std.specs.FinMap.{entries}
use Rattle.std.specs.Option.{option_map_or}
use Rattle.co_project.specs.declared.node.Node.{Node}
use Rattle.co_project.specs.Project.{Content as Project, is_controller}
use Rattle.co_project.specs.Tables.{node_at}
use Rattle.project_parts.specs.declared.part.Part.{Part}
use Rattle.project_parts.specs.declared.part.Part.TheVariants as part

-- the windows are numbered up to 1000
abbrev pub IsPart : Part → Type 0
IsPart (part.Window i) = i ≤ 1000
IsPart q = Unit {0}

-- the device of a node
abbrev pub of_node : ℕ × Node → Part
of_node e = part.Device e.1.eds

-- the devices of all nodes
abbrev pub of_nodes : Project → List Part
of_nodes p = map of_node (entries p.nodes)

abbrev pub own_device : Project → ℕ → List Part
own_device p n = option_map_or (λ (node : Node). part.Device node.eds ∷ []) (node_at p.nodes n) []

abbrev pub for_plan : Project → List Part
for_plan p = of_nodes p ++ part.Plan ∷ []

abbrev pub for_writes : Project → ℕ → List Part
for_writes p n = for_plan p ++ own_device p n ++ part.Writes n ∷ []

-- the writes of a node with all before them, where the manager runs in it
abbrev pub for_own : Project → ℕ → List Part
for_own p n = if is_controller p n then for_writes p n else []

abbrev pub parts_for : Project → Part → List Part
parts_for p (part.Device name) = part.Device name ∷ []
parts_for p part.Plan = for_plan p
parts_for p (part.Writes n) = for_writes p n
parts_for p (part.Concise n) = for_writes p n ++ part.Concise n ∷ []
parts_for p (part.Dcf n) = for_writes p n ++ part.Dcf n ∷ []
parts_for p part.Roster = part.Roster ∷ []
parts_for p (part.Node n) = for_own p n ++ own_device p n ++ part.Node n ∷ []
parts_for p (part.Window i) = of_nodes p ++ part.Window i ∷ []
parts_for p part.Diagnostics = for_plan p ++ part.Diagnostics ∷ []

-- ---- what a simulation reads

-- the parts of the node of a number
abbrev pub for_node : ℕ → List Part
for_node n = part.Writes n ∷ part.Node n ∷ []

abbrev pub for_nodes : List (ℕ × Node) → List Part
for_nodes [] = []
for_nodes (e ∷ es) = for_node e.0 ++ for_nodes es

-- the windows below a number
unfoldable pub windows_below : ℕ → List Part
windows_below zero = []
windows_below (suc i) = windows_below i ++ part.Window i ∷ []

-- the plan with all before it, the roster, the parts of each node, and all windows
unfoldable pub reached_by_trace : Project → List Part
reached_by_trace p = ((for_plan p ++ part.Roster ∷ []) ++ for_nodes (entries p.nodes)) ++ windows_below 1001
