-- Private: the lines that aren't used, by the device of a text.
use Rattle.std.specs.Prelude.{ℕ, List, []}
use Rattle.std.specs.Option.{option_map_or}
use Rattle.eds_device.specs.Sheets.{Sheet}
use Rattle.co_project.specs.Project.{Content}
use Rattle.project_plan.specs.Network.{device_at}
use Rattle.diag_lines.specs.declared.diag.Diag.{Diag}
use Rattle.co_diag.specs.Found.{lines_of}

-- the lines that aren't used of the text of a name
abbrev pub lines_at : Content → List ℕ → List Diag
lines_at p name = option_map_or (λ (sheet : Sheet). lines_of name sheet.warnings) (device_at p name) []
