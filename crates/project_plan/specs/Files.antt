-- The DCF of a node of a project, and the values that such a text gives (CiA 306).
use Rattle.std.specs.Prelude.{ℕ, if◌then◌else◌, List, Option, None, option_and_then}
use Rattle.ini_text.specs.Change.{text_of}
use Rattle.co_values.specs.Values.{value}
use Rattle.co_dict.specs.declared.entry.Entry.{Entry}
use Rattle.co_dict.specs.Accesses.{is_writable}
use Rattle.eds_device.specs.Described.{value_text}
use Rattle.eds_device.specs.Entries.{entry_at}
use Rattle.eds_device.specs.Sheets.{Sheet, sheet_of}
use Rattle.eds_dcf.specs.Dcf.{dcf_sections}
use Rattle.project_edits.specs.Versions.{is_three}
use Rattle.co_project.specs.Project.{Content}
use Rattle.project_plan.specs.Network.{writes_of, Member}

-- THE DCF of a node: the lines of its EDS, with the values that its writes leave
unfoldable pub dcf_text : Content → ℕ → Member → List ℕ
dcf_text project id m = text_of (dcf_sections m.sheet id m.node.name project.bitrate (writes_of project m id))

-- the data sheet that it is, where it is read by the version of its project
abbrev pub sheet_of_dcf : Content → ℕ → Member → Sheet
sheet_of_dcf project id m = sheet_of (is_three project.version) (dcf_text project id m)

-- the value that a data sheet gives an entry that may be written: its ParameterValue, or what `[xxxxValue]` lists for it,
-- read as its type at the node
unfoldable pub value_in_file : Sheet → ℕ → ℕ × ℕ → Option (List ℕ)
value_in_file sheet node place =
    option_and_then (λ (e : Entry). if is_writable e.access
    then option_and_then (λ text. value e.kind text node) (value_text sheet.sections place.0 place.1) else None)
    (entry_at sheet node place.0 place.1)
