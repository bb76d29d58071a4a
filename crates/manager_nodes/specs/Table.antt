-- The table of the nodes that a manager boots (CiA 302): each with how far its boot has come, what a step of it queues
-- and notes, and which nodes are configured. All moments are in microseconds from the power-on of the network.
use Rattle.std.specs.Prelude.{ℕ, ◌+◌, ◌==◌, ◌&&◌, Bool, true, false, List, [], ◌∷◌, ◌++◌, filter}
use Rattle.std.specs.Prelude.{slice_index_or, slice_set, Option, Some, None, if◌then◌else◌}
use Rattle.std.specs.List.{flat_map, list_all, list_any, position}
use Rattle.can_frame.specs.Identifiers.{sdo_request_id}
use Rattle.can_frame.specs.WaitingFrames.{waiting, without_unwanted}
use Rattle.can_frame.specs.declared.purpose.Purpose.TheVariants.{Sdo}
use Rattle.can_frame.specs.declared.unwanted.Unwanted.TheVariants.{SdoOf}
use Rattle.can_frame.specs.declared.waiting.Waiting.{Waiting}
use Rattle.base.specs.Moments.{moments_of}
use Rattle.node_boot.specs.Boot.{sdo_time_out, deadline_of, is_timed_out}
use Rattle.node_boot.specs.declared.boot_stage.BootStage.{BootStage}
use Rattle.node_boot.specs.declared.boot_stage.BootStage.TheVariants.{Unseen, Comparing, Writing, Configured, Failed, Own}
use Rattle.manager_nodes.specs.declared.booting.Booting.{Booting}
use Rattle.node_boot.specs.declared.note.Note.{Note}
use Rattle.node_boot.specs.declared.note_kind.NoteKind.{NoteKind}
use Rattle.node_boot.specs.declared.note_kind.NoteKind.TheVariants as kind

-- ---- the nodes, by number

abbrev pub unseen_node : ℕ → Booting
unseen_node number = record { number = number; stage = Unseen }

-- at first no boot-up of a node was seen; that of the manager's number is the manager's own
abbrev pub first_node : ℕ → ℕ → Booting
first_node manager number = if number == manager then record { number = number; stage = Own } else unseen_node number

abbrev pub is_from : ℕ → ℕ → Booting → Bool
is_from base id node = base + node.number == id

-- the place of the node whose frames have this identifier: its number above a base
unfoldable pub place_of : ℕ → ℕ → List Booting → Option ℕ
place_of base id nodes = position (is_from base id) nodes

abbrev pub no_node : Booting
no_node = unseen_node 0

abbrev pub node_at : List Booting → ℕ → Booting
node_at nodes i = slice_index_or nodes i no_node

-- what a rule gave stands in the table, at that node alone
abbrev pub with_stage : List Booting → ℕ → BootStage → List Booting
with_stage nodes i stage = slice_set nodes i (record (node_at nodes i) { stage = stage })

-- ---- the nodes that are configured

-- its boot has ended, with all writes confirmed
abbrev pub has_booted : BootStage → Bool
has_booted Unseen = false
has_booted (Comparing place expected transfer deadline) = false
has_booted (Writing place transfer deadline) = false
has_booted Configured = true
has_booted Failed = false
has_booted Own = false

-- the manager runs in it
abbrev pub is_own : BootStage → Bool
is_own Unseen = false
is_own (Comparing place expected transfer deadline) = false
is_own (Writing place transfer deadline) = false
is_own Configured = false
is_own Failed = false
is_own Own = true

unfoldable pub is_configured : List Booting → ℕ → Bool
is_configured nodes number = list_any (λ node. (node.number == number) && has_booted node.stage) nodes

-- each node with one of these numbers is
unfoldable pub all_configured : List Booting → List ℕ → Bool
all_configured nodes numbers = list_all (is_configured nodes) numbers

-- ---- what a step of a node's boot queues and notes

-- an SDO request to the node, or an abort
abbrev pub sdo_frames : ℕ → Option (List ℕ) → List Waiting
sdo_frames node None = []
sdo_frames node (Some bytes) = waiting (Sdo node) (record { id = sdo_request_id node; bytes = bytes }) ∷ []

abbrev pub notes_of : ℕ → Option NoteKind → List Note
notes_of node None = []
notes_of node (Some w) = record { node = node; kind = w } ∷ []

-- a node that was configured and boots anew is lost
abbrev pub note_of_loss : BootStage → Option NoteKind
note_of_loss Unseen = None
note_of_loss (Comparing place expected transfer deadline) = None
note_of_loss (Writing place transfer deadline) = None
note_of_loss Configured = Some kind.Lost
note_of_loss Failed = None
note_of_loss Own = None

-- ---- time-outs

-- the nodes of which a request times out at t
abbrev pub timed_out : ℕ → List Booting → List Booting
timed_out t nodes = filter (λ node. is_timed_out t node.stage) nodes

-- the boot of each of them has failed
abbrev pub node_after : ℕ → Booting → Booting
node_after t node = if is_timed_out t node.stage then record node { stage = (sdo_time_out node.stage).stage } else node

-- a request to it that still waits is dropped, and an abort is queued
abbrev pub queue_after_time_out : Booting → List Waiting → List Waiting
queue_after_time_out node ws =
    without_unwanted (SdoOf node.number) ws ++ sdo_frames node.number (sdo_time_out node.stage).request

abbrev pub queue_after_time_outs : List Booting → List Waiting → List Waiting
queue_after_time_outs [] ws = ws
queue_after_time_outs (node ∷ nodes) ws = queue_after_time_outs nodes (queue_after_time_out node ws)

abbrev pub note_of_time_out : Booting → Note
note_of_time_out node = record { node = node.number; kind = kind.TimedOut }

-- ---- the moments of the boots

-- the deadlines of the nodes that boot
unfoldable pub deadlines : List Booting → List ℕ
deadlines nodes = flat_map (λ node. moments_of (deadline_of node.stage)) nodes
