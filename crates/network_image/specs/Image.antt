-- THE IMAGE of a project: what each part of a simulation is, by its name (this profile's own).
use Rattle.std.specs.Prelude.{ℕ, ◌&&◌, not, List, Option, Some, option_map, option_and_then, slice_get, filter}
use Rattle.std.specs.FinMap.{entries, keys}
use Rattle.std.specs.Map.{keys_of}
use Rattle.concise_dcf.specs.declared.write.Write.{Write}
use Rattle.can_frame.specs.declared.slot_rule.SlotRule.{SlotRule}
use Rattle.can_frame.specs.declared.slot_rule.SlotRule.TheVariants.{Stuffed, Unstuffed}
use Rattle.co_dict.specs.Values.{Values}
use Rattle.eds_device.specs.Entries.{defaults_of}
use Rattle.eds_device.specs.Identity.{identity}
use Rattle.project_edits.specs.Stamps.{first_day_of, period_of}
use Rattle.project_edits.specs.declared.script_version.ScriptVersion.{ScriptVersion}
use Rattle.project_edits.specs.declared.script_version.ScriptVersion.TheVariants.{One, Two, Three}
use Rattle.project_plan.specs.Controller.{defaults_held, own_writes}
use Rattle.project_plan.specs.Events.{shape_of_node}
use Rattle.project_plan.specs.Network.{member_at, writes_of, Member}
use Rattle.co_project.specs.Project.{Content as Project, is_controller}
use Rattle.co_scenario.specs.declared.timed_step.TimedStep.{TimedStep}
use Rattle.image_parts.specs.Contents.{Image, RosterIs, DefaultsAre, ShapeIs, ExpectIs, BootIs, EventsAre}
use Rattle.image_parts.specs.declared.identity.Identity.{Identity}
use Rattle.image_parts.specs.declared.part.Part.TheVariants as part
use Rattle.image_parts.specs.declared.roster.Roster.{Roster}
use Rattle.image_parts.specs.declared.start_mode.StartMode.{StartMode}
use Rattle.image_parts.specs.declared.start_mode.StartMode.TheVariants.{ConfiguredNodes, EachNode, WholeNetwork}
use Rattle.network_image.specs.Steps.{steps_in, unless_none}

-- by the version of its script: each node is started by itself once it is configured, or the network as a whole, or all
-- configured nodes, one after another
abbrev pub start_mode_of : ScriptVersion → StartMode
start_mode_of One = EachNode
start_mode_of Two = WholeNetwork
start_mode_of Three = ConfiguredNodes

-- by the version of its script: frames are counted without stuff bits or with them
abbrev pub slot_rule : ScriptVersion → SlotRule
slot_rule One = Unstuffed
slot_rule Two = Unstuffed
slot_rule Three = Stuffed

-- the numbers of the mandatory nodes, in rising order: the manager waits for none that it runs in
abbrev pub mandatory_of : Project → List ℕ
mandatory_of project = keys_of (filter (λ e. e.1.mandatory && not (is_controller project e.0)) (entries project.nodes))

-- the bit rate, which bits of a frame take the bus, the manager with what it sends periodically, when it starts nodes, and
-- the numbers of the nodes
unfoldable pub roster_of_project : Project → Roster
roster_of_project project = record {
  bit_rate = project.bitrate;
  slots = slot_rule project.version;
  manager = project.manager.id;
  sync_us = project.manager.sync_us;
  sync_counter = project.sync_counter;
  time_us = period_of project.time_stamps;
  first_day = first_day_of project.time_stamps;
  heartbeat_ms = project.manager.heartbeat_ms;
  timeout_ms = project.manager.timeout_ms;
  start_mode = start_mode_of project.version;
  mandatory = mandatory_of project;
  nodes = keys project.nodes;
}

-- the default values of the device of its EDS, at its number; the device that the manager runs in has its writes besides
unfoldable pub defaults_of_node : Project → ℕ → Option Values
defaults_of_node project node =
    option_map (λ (m : Member). defaults_held (own_writes project node (writes_of project m node)) (defaults_of m.sheet node))
    (member_at project node)

-- the device type and the identity of the device of its EDS
unfoldable pub identity_of_node : Project → ℕ → Option Identity
identity_of_node project node = option_map (λ (m : Member). record { numbers = identity m.sheet node })
    (member_at project node)

-- the write at a place, from 0, of those that the node gets
unfoldable pub write_of_node : Project → ℕ → ℕ → Option Write
write_of_node project node place = option_and_then (λ (m : Member). slice_get (writes_of project m node) place)
    (member_at project node)

-- the steps of a window, with the shapes of the project's nodes
unfoldable pub window_steps : Project → ℕ → List TimedStep
window_steps project i = steps_in (shape_of_node project) project.events i

-- THE IMAGE: the parts of a number that isn't a node's are none, and so is a window without steps
abbrev pub image_of : Project → Image
image_of project part.Roster = RosterIs (Some (roster_of_project project))
image_of project (part.Defaults node) = DefaultsAre (defaults_of_node project node)
image_of project (part.Shape node) = ShapeIs (shape_of_node project node)
image_of project (part.Expect node) = ExpectIs (identity_of_node project node)
image_of project (part.Boot node place) = BootIs (write_of_node project node place)
image_of project (part.Events window) = EventsAre (unless_none (window_steps project window))
