-- Private: the data sheets that are held by name, and what was found of the nodes of one.
use Rattle.std.specs.Prelude.{◌≡◌, ℕ, List, All, IfSome}
use Rattle.std.specs.FinMap.{get}
use Rattle.std.specs.Map.{values_of}
use Rattle.eds_device.specs.Sheets.{Sheet}
use Rattle.project_plan.specs.Library.{Devices}
use Rattle.project_plan.specs.Network.{Member}

-- what was found is of nodes that have this data sheet
abbrev pub AreOfSheet : Sheet → List (ℕ × (ℕ × Member)) → Type 0
AreOfSheet sheet found = All (λ (f : ℕ × Member). f.1.sheet ≡ sheet) (values_of found)

-- no other data sheet is held by a name
abbrev pub HoldsNoOther : Devices → List ℕ → Sheet → Type 0
HoldsNoOther sheets name sheet = IfSome (get sheets name) (λ held. held ≡ sheet)
