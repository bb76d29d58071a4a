-- What parts are, by the inputs that they are built from.
use Rattle.std.specs.Prelude.{ℕ, Bool, List, is_some}
use Rattle.std.specs.FinMap.{entries}
use Rattle.ini_text.specs.Change.{text_of}
use Rattle.concise_dcf.specs.declared.write.Write.{Write}
use Rattle.concise_dcf.specs.Concise.{text_of as concise_text}
use Rattle.eds_dcf.specs.Dcf.{dcf_sections}
use Rattle.pdo_stations.specs.Devices.{devices_of}
use Rattle.pdo_plan.specs.declared.planned_message.PlannedMessage.{PlannedMessage}
use Rattle.pdo_plan.specs.Plan.{plan_of}
use Rattle.pdo_links.specs.Writes.{node_writes}
use Rattle.project_plan.specs.Controller.{defaults_held, shape_held}
use Rattle.project_plan.specs.Named.{is_flagged}
use Rattle.image_parts.specs.declared.roster.Roster.{Roster}
use Rattle.eds_device.specs.Entries.{defaults_of, shape_of}
use Rattle.eds_device.specs.Identity.{identity}
use Rattle.eds_device.specs.Sheets.{Sheet}
use Rattle.project_parts.specs.declared.device_at.DeviceAt.{DeviceAt}
use Rattle.project_parts.specs.declared.device_parts.DeviceParts.{DeviceParts}
use Rattle.project_parts.specs.declared.plan_from.PlanFrom.{PlanFrom}
use Rattle.project_parts.specs.declared.roster_from.RosterFrom.{RosterFrom}
use Rattle.project_parts.specs.declared.writes_from.WritesFrom.{WritesFrom}
use Rattle.project_parts.specs.declared.concise_from.ConciseFrom.{ConciseFrom}
use Rattle.project_parts.specs.declared.dcf_from.DcfFrom.{DcfFrom}
use Rattle.project_parts.specs.Written.{DeviceWithWrites}

-- the plan of the messages over the devices of the nodes, by the rules of version 3 or not, with the controller
unfoldable pub plan_made : PlanFrom → List PlannedMessage
plan_made f = plan_of (devices_of f.is_three f.controller f.devices) (entries f.messages)

-- a node with its device is one that messages name
abbrev pub flagged : List Bool → ℕ × Sheet → Bool
flagged flags d = is_flagged flags d.0

-- the writes of a node
unfoldable pub writes_made : WritesFrom → List Write
writes_made f = node_writes f.is_three f.plan f.params f.device f.node

-- and its device with them
abbrev pub written_made : WritesFrom → DeviceWithWrites
written_made f = record { device = f.device; writes = writes_made f }

-- the concise DCF (CiA 302) of a node
unfoldable pub concise_made : ConciseFrom → List ℕ
concise_made f = concise_text f.writes

-- the DCF (CiA 306) of a node
unfoldable pub dcf_made : DcfFrom → List ℕ
dcf_made f = text_of (dcf_sections f.device f.node f.name f.rate f.writes)

-- the roster is kept with itself
abbrev pub roster_made : RosterFrom → Roster
roster_made f = f.roster

-- what a simulation reads of a node by its device: the values of its entries, the entries, and the device type and
-- the identity that are expected of it; where the manager runs in it, it has its own writes from its power-on on
unfoldable pub device_parts : DeviceAt → DeviceParts
device_parts f = record {
  defaults = defaults_held f.own (defaults_of f.device f.node);
  shape = shape_held (is_some f.own) (shape_of f.device f.node);
  expect = record { numbers = identity f.device f.node };
}
