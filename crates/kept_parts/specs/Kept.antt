-- The parts of a project that are kept, with what they were made from, and which of them are known to be those of now.
use Rattle.std.specs.Prelude.{◌≡◌, ℕ, Bool, true, List, All, Option, Some, None, option_map}
use Rattle.std.specs.FinMap.{insert}
use Rattle.std.specs.List.{list_any}
use Rattle.kept_values.specs.Shelved.{is_fresh, kept_at}
use Rattle.co_project.specs.Project.{Content as Project}
use Rattle.part_shelves.specs.Slots.{fresh_at, sheet_kept}
use Rattle.network_image.specs.Held.{AllHeld, PartsOfNode}
use Rattle.project_parts.specs.Given.{inputs_of, same_part, Given, OfConcise, OfDcf, OfDevice, OfDiagnostics, OfNode}
use Rattle.project_parts.specs.Given.{OfPlan, OfRoster, OfWindow, OfWrites}
use Rattle.project_parts.specs.Reached.{of_nodes, reached_by_trace}
use Rattle.project_parts.specs.declared.part.Part.{Part}
use Rattle.project_parts.specs.declared.part.Part.TheVariants as part
use Rattle.kept_parts.specs.declared.kept_parts.KeptParts.{KeptParts}

-- what a part that is kept was made from
abbrev pub kept_inputs : KeptParts → Part → Option Given
kept_inputs k (part.Device name) = option_map OfDevice (sheet_kept k.devices name)
kept_inputs k part.Plan = option_map OfPlan k.plan.kept
kept_inputs k (part.Writes n) = option_map OfWrites (kept_at k.writes n)
kept_inputs k (part.Concise n) = option_map OfConcise (kept_at k.concise n)
kept_inputs k (part.Dcf n) = option_map OfDcf (kept_at k.dcf n)
kept_inputs k part.Roster = option_map OfRoster k.roster.kept
kept_inputs k (part.Node n) = option_map OfNode (kept_at k.nodes n)
kept_inputs k (part.Window i) = option_map OfWindow (kept_at k.windows i)
kept_inputs k part.Diagnostics = option_map OfDiagnostics k.found.kept

-- a part has no mark
abbrev pub is_unmarked : KeptParts → Part → Bool
is_unmarked k (part.Device name) = fresh_at k.devices name
is_unmarked k part.Plan = k.plan.fresh
is_unmarked k (part.Writes n) = is_fresh k.writes n
is_unmarked k (part.Concise n) = is_fresh k.concise n
is_unmarked k (part.Dcf n) = is_fresh k.dcf n
is_unmarked k part.Roster = k.roster.fresh
is_unmarked k (part.Node n) = is_fresh k.nodes n
is_unmarked k (part.Window i) = is_fresh k.windows i
is_unmarked k part.Diagnostics = k.found.fresh

-- each part without a mark is held as it is to be made from the project's inputs of now
abbrev pub AreOfNow : Project → KeptParts → Type 0
AreOfNow p k = (q : Part) → is_unmarked k q ≡ true → kept_inputs k q ≡ inputs_of p q

-- none of these parts has a mark
abbrev pub HaveNoMark : KeptParts → List Part → Type 0
HaveNoMark k qs = All (λ q. is_unmarked k q ≡ true) qs

-- where the plan has no mark, the devices of the nodes have none either
abbrev pub IsClosed : Project → KeptParts → Type 0
IsClosed p k = k.plan.fresh ≡ true → HaveNoMark k (of_nodes p)

-- THE RELATION: each part without a mark is held as it is to be made from the project's inputs of now, and a plan
-- without a mark has no device with a mark below it
unfoldable pub IsOf : Project → KeptParts → Type 0
IsOf p k = AreOfNow p k × IsClosed p k

-- ---- what is held as it is to be made now

-- these parts
unfoldable pub AreHeld : Project → List Part → KeptParts → Type 0
AreHeld p ps k = (q : Part) → list_any (same_part q) ps ≡ true → kept_inputs k q ≡ inputs_of p q

-- all parts that a simulation reads
abbrev pub IsCurrent : Project → KeptParts → Type 0
IsCurrent p k = AreHeld p (reached_by_trace p) k

-- a node with its parts, if it has any
abbrev pub with_parts : ℕ → Option PartsOfNode → AllHeld → AllHeld
with_parts n None nodes = nodes
with_parts n (Some h) nodes = insert nodes n h
