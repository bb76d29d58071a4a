-- The parts of a project, and what each is to be made from now.
use Rattle.std.specs.Prelude.{ℕ, Bool, true, false, List, Option, Some, None, if◌then◌else◌, ◌==◌, option_map, option_and_then, filter_map}
use Rattle.std.specs.FinMap.{entries}
use Rattle.std.specs.Ordering.{eq_by_cmp}
use Rattle.eds_device.specs.Sheets.{Sheet}
use Rattle.project_edits.specs.Versions.{is_three}
use Rattle.project_messages.specs.Messages.{name_cmp}
use Rattle.co_project.specs.declared.node.Node.{Node}
use Rattle.co_project.specs.Project.{Content as Project, controller_of, is_controller}
use Rattle.concise_dcf.specs.declared.write.Write.{Write}
use Rattle.co_project.specs.Tables.{node_at}
use Rattle.co_scenario.specs.declared.timed_step.TimedStep.{TimedStep}
use Rattle.part_shelves.specs.SheetText.{sheet_given, SheetText}
use Rattle.project_plan.specs.Network.{device_at}
use Rattle.network_image.specs.Image.{roster_of_project, window_steps}
use Rattle.project_parts.specs.declared.plan_from.PlanFrom.{PlanFrom}
use Rattle.project_parts.specs.declared.writes_from.WritesFrom.{WritesFrom}
use Rattle.project_parts.specs.declared.concise_from.ConciseFrom.{ConciseFrom}
use Rattle.project_parts.specs.declared.dcf_from.DcfFrom.{DcfFrom}
use Rattle.project_parts.specs.declared.roster_from.RosterFrom.{RosterFrom}
use Rattle.project_parts.specs.declared.device_at.DeviceAt.{DeviceAt}
use Rattle.project_parts.specs.declared.diagnostics_from.DiagnosticsFrom.{DiagnosticsFrom}
use Rattle.project_parts.specs.declared.part.Part.{Part}
use Rattle.project_parts.specs.declared.part.Part.TheVariants as part
use Rattle.project_parts.specs.Made.{plan_made, writes_made}

abbrev pub same_part : Part → Part → Bool
same_part (part.Device a) (part.Device b) = eq_by_cmp name_cmp a b
same_part part.Plan part.Plan = true
same_part (part.Writes a) (part.Writes b) = a == b
same_part (part.Concise a) (part.Concise b) = a == b
same_part (part.Dcf a) (part.Dcf b) = a == b
same_part part.Roster part.Roster = true
same_part (part.Node a) (part.Node b) = a == b
same_part (part.Window a) (part.Window b) = a == b
same_part part.Diagnostics part.Diagnostics = true
same_part p q = false

-- what a part is made from; a window is kept with its own steps
pub data Given : Type 0 where
  OfDevice : SheetText → Given
  OfPlan : PlanFrom → Given
  OfWrites : WritesFrom → Given
  OfConcise : ConciseFrom → Given
  OfDcf : DcfFrom → Given
  OfRoster : RosterFrom → Given
  OfNode : DeviceAt → Given
  OfWindow : List TimedStep → Given
  OfDiagnostics : DiagnosticsFrom → Given

-- ---- what the files are made of

-- a node with its device
abbrev pub node_with_device : Project → ℕ × Node → Option (ℕ × Sheet)
node_with_device p e = option_map (λ d. (e.0, d)) (device_at p e.1.eds)

abbrev pub plan_from : Project → PlanFrom
plan_from p = record {
  is_three = is_three p.version;
  controller = controller_of p;
  devices = filter_map (node_with_device p) (entries p.nodes);
  messages = p.messages;
}

abbrev pub writes_of_node : Project → ℕ → Node → Option WritesFrom
writes_of_node p n node =
    option_map (λ d. record {
      is_three = is_three p.version;
      plan = plan_made (plan_from p);
      params = node.params;
      device = d;
      node = n;
    })
    (device_at p node.eds)

abbrev pub writes_from : Project → ℕ → Option WritesFrom
writes_from p n = option_and_then (writes_of_node p n) (node_at p.nodes n)

abbrev pub concise_from : Project → ℕ → Option ConciseFrom
concise_from p n = option_map (λ w. record { writes = writes_made w }) (writes_from p n)

abbrev pub dcf_of_node : Project → ℕ → Node → Option DcfFrom
dcf_of_node p n node =
    option_map (λ (w : WritesFrom). record {
      device = w.device;
      name = node.name;
      rate = p.bitrate;
      writes = writes_made w;
      node = n;
    })
    (writes_of_node p n node)

abbrev pub dcf_from : Project → ℕ → Option DcfFrom
dcf_from p n = option_and_then (dcf_of_node p n) (node_at p.nodes n)

-- ---- what else a simulation reads

abbrev pub roster_from : Project → RosterFrom
roster_from p = record { roster = roster_of_project p }

-- the writes that a node holds by itself: those of the one that the manager runs in
abbrev pub own_given : Project → ℕ → Option (List Write)
own_given p n = if is_controller p n then option_map writes_made (writes_from p n) else None

abbrev pub device_of_node : Project → ℕ → Node → Option DeviceAt
device_of_node p n node = option_map (λ d. record { device = d; node = n; own = own_given p n }) (device_at p node.eds)

-- the device of a node with its number, and the writes that it holds by itself
abbrev pub device_from : Project → ℕ → Option DeviceAt
device_from p n = option_and_then (device_of_node p n) (node_at p.nodes n)

-- ---- what is wrong

-- the project, by which the plan of its messages and the devices of its nodes are defined
abbrev pub whole : Project → DiagnosticsFrom
whole p = record { project = p }

-- WHAT A PART IS TO BE MADE FROM NOW, or none where its subject is gone
abbrev pub inputs_of : Project → Part → Option Given
inputs_of p (part.Device name) = option_map OfDevice (sheet_given p name)
inputs_of p part.Plan = Some (OfPlan (plan_from p))
inputs_of p (part.Writes n) = option_map OfWrites (writes_from p n)
inputs_of p (part.Concise n) = option_map OfConcise (concise_from p n)
inputs_of p (part.Dcf n) = option_map OfDcf (dcf_from p n)
inputs_of p part.Roster = Some (OfRoster (roster_from p))
inputs_of p (part.Node n) = option_map OfNode (device_from p n)
inputs_of p (part.Window i) = Some (OfWindow (window_steps p i))
inputs_of p part.Diagnostics = Some (OfDiagnostics (whole p))
