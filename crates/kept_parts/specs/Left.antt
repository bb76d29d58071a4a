-- What is left of what is held once the parts of what a project doesn't have are let go.
use Rattle.std.specs.Prelude.{◌≡◌, true, Option, None}
use Rattle.kept_values.specs.Stale.{without}
use Rattle.co_project.specs.Project.{Content as Project}
use Rattle.project_parts.specs.Given.{Given}
use Rattle.project_parts.specs.Gone.{is_gone}
use Rattle.project_parts.specs.declared.part.Part.{Part}
use Rattle.kept_parts.specs.Kept.{kept_inputs}
use Rattle.kept_parts.specs.declared.kept_parts.KeptParts.{KeptParts}

-- what is held, but of what is gone
abbrev pub left_of : Project → KeptParts → Part → Option Given
left_of p k = without (is_gone p) (kept_inputs k)

-- NO PART IS HELD under a name of an EDS or a number of a node that the project doesn't have; what another part was made
-- from, as the data sheet that its node had before, stays with it
abbrev pub HoldsNoneGone : Project → KeptParts → Type 0
HoldsNoneGone p k = (q : Part) → is_gone p q ≡ true → kept_inputs k q ≡ None

-- so it is where that is known
unfoldable pub IsSwept : Project → KeptParts → Type 0
IsSwept p k = k.swept ≡ true → HoldsNoneGone p k
