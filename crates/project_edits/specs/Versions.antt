-- The versions of scripts (this profile's own).
use Rattle.std.specs.Prelude.{ℕ, ◌==◌, Bool, true, false, Result, Ok, Err, if◌then◌else◌}
use Rattle.project_edits.specs.declared.fault.EditFault.{EditFault}
use Rattle.project_edits.specs.declared.fault.EditFault.TheVariants.{Range}
use Rattle.project_edits.specs.declared.script_version.ScriptVersion.{ScriptVersion}
use Rattle.project_edits.specs.declared.script_version.ScriptVersion.TheVariants.{One, Two, Three}

-- the number of a version
abbrev pub number_of : ScriptVersion → ℕ
number_of One = 1
number_of Two = 2
number_of Three = 3

-- version 1 knows no mandatory nodes
abbrev pub is_one : ScriptVersion → Bool
is_one One = true
is_one Two = false
is_one Three = false

-- version 3 knows receives
abbrev pub is_three : ScriptVersion → Bool
is_three One = false
is_three Two = false
is_three Three = true

-- the version of a number
abbrev pub version_of : ℕ → Result ScriptVersion EditFault
version_of n =
    if n == 1 then Ok One
    else if n == 2 then Ok Two
    else if n == 3 then Ok Three
    else Err Range
