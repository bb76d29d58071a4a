-- When the manager starts nodes (CiA 302, start of NMT slaves).
use Rattle.std.specs.Prelude.{ℕ, ◌&&◌, ◌||◌, not, Bool, true, false, List, [], ◌∷◌, Option, Some, None, if◌then◌else◌}
use Rattle.std.specs.List.{flat_map}
use Rattle.can_frame.specs.Frames.{BaseFrame}
use Rattle.can_frame.specs.NmtMessages.{nmt_message}
use Rattle.can_frame.specs.WaitingFrames.{waiting}
use Rattle.can_frame.specs.declared.purpose.Purpose.TheVariants.{Nmt}
use Rattle.can_frame.specs.declared.waiting.Waiting.{Waiting}
use Rattle.image_parts.specs.declared.roster.Roster.{Roster}
use Rattle.image_parts.specs.declared.start_mode.StartMode.{StartMode}
use Rattle.image_parts.specs.declared.start_mode.StartMode.TheVariants.{ConfiguredNodes, EachNode, WholeNetwork}
use Rattle.co_scenario.specs.Commands.{number_of}
use Rattle.co_scenario.specs.declared.nmt_command.NmtCommand.{NmtCommand}
use Rattle.co_scenario.specs.declared.nmt_command.NmtCommand.TheVariants.{Start}
use Rattle.node_boot.specs.declared.note_kind.NoteKind.{NoteKind}
use Rattle.node_boot.specs.declared.note_kind.NoteKind.TheVariants as kind
use Rattle.manager_nodes.specs.Table.{all_configured, has_booted, is_own}
use Rattle.manager_nodes.specs.declared.booting.Booting.{Booting}

-- when it starts nodes, the numbers of the mandatory nodes, and whether it has started the network
pub record Startup : Type 0 where
  pub mode : StartMode
  pub mandatory : List ℕ
  pub is_started : Bool

abbrev pub no_startup : Startup
no_startup = record { mode = EachNode; mandatory = []; is_started = false }

abbrev pub startup_of : Roster → Startup
startup_of roster = record { mode = roster.start_mode; mandatory = roster.mandatory; is_started = false }

-- ---- which nodes are started, where a node is configured

-- each node by itself: in this mode always, and in the others once the network is started
abbrev pub by_mode : StartMode → Bool → Bool
by_mode EachNode is_started = true
by_mode WholeNetwork is_started = is_started
by_mode ConfiguredNodes is_started = is_started

abbrev pub starts_each : Startup → Bool
starts_each startup = by_mode startup.mode startup.is_started

-- the network: it wasn't started yet, and each mandatory node is configured
abbrev pub starts_network : Startup → List Booting → Bool
starts_network startup nodes = not (starts_each startup) && all_configured nodes startup.mandatory

-- ---- the commands that start them

-- a command to a node; 0 stands for all nodes
abbrev pub nmt_frame : NmtCommand → ℕ → BaseFrame
nmt_frame command node = nmt_message (number_of command) node

-- Start remote node
abbrev pub start_of : ℕ → List Waiting
start_of node = waiting Nmt (nmt_frame Start node) ∷ []

-- that of a node which is started with the network: where it is configured, or the manager's own
abbrev pub start_with_network : Booting → List Waiting
start_with_network node = if has_booted node.stage || is_own node.stage then start_of node.number else []

-- and of each of them, by number
abbrev pub starts_with_network : List Booting → List Waiting
starts_with_network nodes = flat_map start_with_network nodes

-- what starts the network: one command to all nodes, or one to each node that is configured, and to the manager's own
abbrev pub network_start_frames : StartMode → List Booting → List Waiting
network_start_frames EachNode nodes = []
network_start_frames WholeNetwork nodes = start_of 0
network_start_frames ConfiguredNodes nodes = starts_with_network nodes

-- the manager's own node has booted up: where the network is started, it is started too
unfoldable pub own_start : Startup → ℕ → List Waiting
own_start startup node = if startup.is_started then start_of node else []

-- a node is configured, and the nodes are these now
unfoldable pub frames_of_configured : Startup → List Booting → ℕ → List Waiting
frames_of_configured startup nodes node =
    if starts_each startup then start_of node
    else if starts_network startup nodes then network_start_frames startup.mode nodes
    else []

abbrev pub start_frames : Startup → List Booting → ℕ → Option NoteKind → List Waiting
start_frames startup nodes node None = []
start_frames startup nodes node (Some kind.Lost) = []
start_frames startup nodes node (Some kind.Configured) = frames_of_configured startup nodes node
start_frames startup nodes node (Some kind.Difference) = []
start_frames startup nodes node (Some (kind.Aborted abort)) = []
start_frames startup nodes node (Some kind.TimedOut) = []

-- ---- once started, the network stays so, whatever is lost later

unfoldable pub startup_of_configured : Startup → List Booting → Startup
startup_of_configured startup nodes = record startup { is_started = startup.is_started || starts_network startup nodes }

abbrev pub startup_after : Startup → List Booting → Option NoteKind → Startup
startup_after startup nodes None = startup
startup_after startup nodes (Some kind.Lost) = startup
startup_after startup nodes (Some kind.Configured) = startup_of_configured startup nodes
startup_after startup nodes (Some kind.Difference) = startup
startup_after startup nodes (Some (kind.Aborted abort)) = startup
startup_after startup nodes (Some kind.TimedOut) = startup
