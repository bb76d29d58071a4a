-- What was read of a project: devices by the names of their EDS.
use Rattle.std.specs.Prelude.{◌≡◌, ℕ, List, Some, refl}
use Rattle.std.specs.Coded.{Coded, code_by, coded×, coded_ℕ, coded_list}
use Rattle.std.specs.FinMap.{FinMap, code, get, insert}
use Rattle.std.specs.Option.{option_map_or}
use Rattle.base.specs.Tables.{Each}
use Rattle.eds_device.specs.Sheets.{Sheet}
use Rattle.project_messages.specs.Messages.{name_cmp}
use Rattle.co_project.specs.Project.{Content}
use Rattle.project_plan.specs.Network.{device_at}

-- devices by the names of their EDS
abbrev pub Devices : Type 0
Devices = FinMap name_cmp Sheet

-- a project, and those of its devices that were read
pub record Read : Type 0 where
  pub project : Content
  pub devices : Devices

-- it is stored as the two
abbrev pub read_code : Coded Content → Coded Sheet → Coded Read
read_code project_code device_code =
    code_by (Content × Devices) (coded× project_code (code (coded_list coded_ℕ) device_code))
    (λ r. (r.project, r.devices)) (λ t. record { project = t.0; devices = t.1 }) (λ _. refl)

-- where the project has the text of a name, its device is among them
abbrev pub with_device : Read → List ℕ → Read
with_device read name = record read {
  devices = option_map_or (insert read.devices name) (device_at read.project name) read.devices;
}

-- each is what the project's text of its name describes
abbrev pub AreRead : Content → Devices → Type 0
AreRead project devices = Each (λ name device. device_at project name ≡ Some device) devices

-- the device of a name is among them, if the project has its text
abbrev pub IsRead : Read → List ℕ → Type 0
IsRead read name = get read.devices name ≡ device_at read.project name
