-- The network of a project: the devices of its nodes, the plan of its messages, and the writes that each node gets
-- (this profile's own).
use Rattle.std.specs.Prelude.{ℕ, List, filter_map, map, Option, option_map, option_and_then}
use Rattle.std.specs.FinMap.{entries}
use Rattle.concise_dcf.specs.declared.write.Write.{Write}
use Rattle.project_edits.specs.Versions.{is_three}
use Rattle.co_project.specs.declared.node.Node.{Node}
use Rattle.co_project.specs.Project.{Content, controller_of}
use Rattle.co_project.specs.Tables.{node_at, text_at}
use Rattle.pdo_plan.specs.declared.planned_message.PlannedMessage.{PlannedMessage}
use Rattle.pdo_stations.specs.Devices.{devices_of}
use Rattle.pdo_plan.specs.Plan.{plan_of}
use Rattle.pdo_links.specs.Writes.{node_writes}
use Rattle.eds_device.specs.Sheets.{Sheet, sheet_of}

-- THE DEVICE of an EDS, where the project has the text of that name: in version 3 with the data types that it models
abbrev pub device_at : Content → List ℕ → Option Sheet
device_at project name = option_map (sheet_of (is_three project.version)) (text_at project.texts name)

-- a node, and the data sheet that it is made from
pub record Member : Type 0 where
  pub node : Node
  pub sheet : Sheet

-- a node with its data sheet
abbrev pub with_sheet : Content → Node → Option Member
with_sheet project node = option_map (λ sheet. record { node = node; sheet = sheet }) (device_at project node.eds)

-- the node of a number with its EDS
unfoldable pub member_at : Content → ℕ → Option Member
member_at project id = option_and_then (with_sheet project) (node_at project.nodes id)

-- a number and its node with the data sheet of a device
abbrev pub member_of : ℕ → Node → Sheet → ℕ × Member
member_of id node sheet = (id, record { node = node; sheet = sheet })

-- a number and its node with its EDS
abbrev pub member_by : Content → ℕ × Node → Option (ℕ × Member)
member_by project e = option_map (λ m. (e.0, m)) (with_sheet project e.1)

-- THE NODES with their EDS, by number
unfoldable pub members : Content → List (ℕ × Member)
members project = filter_map (member_by project) (entries project.nodes)

-- their data sheets alone
unfoldable pub sheets_of_members : Content → List (ℕ × Sheet)
sheets_of_members project = map (λ e. (e.0, e.1.sheet)) (members project)

-- THE PLAN of a project's messages, over the devices of its nodes, by the rules of its version, with its controller
unfoldable pub plan_of_project : Content → List PlannedMessage
plan_of_project project = plan_of
    (devices_of (is_three project.version) (controller_of project) (sheets_of_members project))
    (entries project.messages)

-- THE WRITES of the node of a number: those of its parameters, and what the plan gives it
unfoldable pub writes_of : Content → Member → ℕ → List Write
writes_of project m id = node_writes (is_three project.version) (plan_of_project project) m.node.params m.sheet id
