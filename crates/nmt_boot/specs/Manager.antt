-- The NMT manager (CiA 302): the boots of its nodes, when it starts them, what it sends periodically, and the frames
-- that it has waiting. All nodes boot side by side.
use Rattle.std.specs.Prelude.{ℕ, ◌+◌, ◌*◌, ◌==◌, Bool, false, List, [], ◌∷◌, ◌++◌, length, map}
use Rattle.std.specs.Prelude.{slice_index_or, Option, Some, None, if◌then◌else◌}
use Rattle.image_parts.specs.Asking.{Asking, Answer, bind}
use Rattle.can_frame.specs.Frames.{BaseFrame}
use Rattle.can_frame.specs.Identifiers.{error_control_id, sdo_answer_id}
use Rattle.can_frame.specs.WaitingFrames.{waiting, without_unwanted}
use Rattle.can_frame.specs.declared.purpose.Purpose.TheVariants.{BootUp, Nmt}
use Rattle.can_frame.specs.declared.unwanted.Unwanted.TheVariants.{SdoOf}
use Rattle.can_frame.specs.declared.waiting.Waiting.{Waiting}
use Rattle.image_parts.specs.Contents.{Content}
use Rattle.image_parts.specs.Rosters.{has_controller}
use Rattle.base.specs.Moments.{earliest}
use Rattle.image_parts.specs.declared.part.Part.{Part}
use Rattle.image_parts.specs.declared.roster.Roster.{Roster}
use Rattle.co_scenario.specs.declared.nmt_command.NmtCommand.{NmtCommand}
use Rattle.node_boot.specs.Boot.{boot_nmt_slave, sdo_answer}
use Rattle.node_boot.specs.declared.note.Note.{Note}
use Rattle.node_boot.specs.declared.boot_step.BootStep.{BootStep}
use Rattle.manager_nodes.specs.Table.{first_node, is_own, node_at, place_of, with_stage, note_of_loss, notes_of, sdo_frames}
use Rattle.manager_nodes.specs.Table.{deadlines, node_after, note_of_time_out, queue_after_time_outs, timed_out}
use Rattle.manager_nodes.specs.declared.booting.Booting.{Booting}
use Rattle.nmt_boot.specs.Periodic.{first_of, messages, messages_of, next_moments, periodic_after, queue_after, silent}
use Rattle.nmt_boot.specs.declared.periodic.Periodic.{Periodic}
use Rattle.nmt_boot.specs.Startup.{Startup, no_startup, own_start, startup_of, nmt_frame, start_frames, startup_after}
use Rattle.can_frame.specs.ErrorControl.{boot_up_message}

-- its number, the time-out in microseconds, what it sends periodically, when it starts nodes, the nodes by number with
-- their boots, and the waiting frames
pub record Manager : Type 0 where
  pub spent : Bool
  pub number : ℕ
  pub timeout : ℕ
  pub periodic : List Periodic
  pub startup : Startup
  pub nodes : List Booting
  pub waiting : List Waiting

-- ---- before and at the power-on of the network

abbrev pub blank : Manager
blank = record {
  spent = false;
  number = 0;
  timeout = 0;
  periodic = map silent (messages 0 0);
  startup = no_startup;
  nodes = [];
  waiting = [];
}

-- the manager's own boot-up message; where it runs in the device of a node, that sends it
abbrev pub first_waiting : Roster → List Waiting
first_waiting roster = if has_controller roster then [] else waiting BootUp (boot_up_message roster.manager) ∷ []

-- at time 0 no node was seen, nothing is started, and the manager's own boot-up waits; what is periodic comes at the
-- whole multiples of its period above 0
unfoldable pub manager_at_power_on : Roster → Manager
manager_at_power_on roster = record {
  spent = false;
  number = roster.manager;
  timeout = 1000 * roster.timeout_ms;
  periodic = map (first_of roster) (messages_of roster);
  startup = startup_of roster;
  nodes = map (first_node roster.manager) roster.nodes;
  waiting = first_waiting roster;
}

-- ---- commands of the network management

-- a command is queued behind what waits
abbrev pub with_command : NmtCommand → ℕ → Manager → Manager
with_command command node m = record m { waiting = m.waiting ++ waiting Nmt (nmt_frame command node) ∷ [] }

-- ---- a step of a node's boot: its stage stands in the table first, and then by that table nodes are started

abbrev pub after_step : ℕ → BootStep → Manager → Manager × List Note
after_step i step m = (
  record m {
    startup = startup_after m.startup (with_stage m.nodes i step.stage) step.note;
    nodes = with_stage m.nodes i step.stage;
    waiting = (m.waiting ++ sdo_frames (node_at m.nodes i).number step.request)
        ++ start_frames m.startup (with_stage m.nodes i step.stage) (node_at m.nodes i).number step.note;
  },
  notes_of (node_at m.nodes i).number step.note,
)

-- ---- boot-up of a node: frames to it that wait are dropped, and its boot begins anew

abbrev pub after_boot_start : ℕ → Manager → BootStep → Manager × List Note
after_boot_start i m step =
    let node = node_at m.nodes i in (
      (after_step i step (record m { waiting = without_unwanted (SdoOf node.number) m.waiting })).0,
      notes_of node.number (note_of_loss node.stage) ++ notes_of node.number step.note,
    )

unfoldable pub after_boot_at : ℕ → ℕ → Manager → Asking Part Content (Manager × List Note)
after_boot_at t i m = bind (boot_nmt_slave (t + m.timeout) (node_at m.nodes i).number)
    (λ step. Answer (after_boot_start i m step))

-- that of the manager's own node: nothing is booted
unfoldable pub after_own_boot_up : ℕ → Manager → Manager
after_own_boot_up i m = record m { waiting = m.waiting ++ own_start m.startup (node_at m.nodes i).number }

unfoldable pub after_boot_up : ℕ → Option ℕ → Manager → Asking Part Content (Manager × List Note)
after_boot_up t None m = Answer (m, [])
after_boot_up t (Some i) m = if is_own (node_at m.nodes i).stage then Answer (after_own_boot_up i m, [])
    else after_boot_at t i m

-- ---- SDO answer of a node

unfoldable pub after_answer_at : ℕ → List ℕ → ℕ → Manager → Asking Part Content (Manager × List Note)
after_answer_at t answer i m = bind (sdo_answer (t + m.timeout)
    (node_at m.nodes i).number (node_at m.nodes i).stage answer) (λ step. Answer (after_step i step m))

unfoldable pub after_sdo_frame : ℕ → List ℕ → Option ℕ → Manager → Asking Part Content (Manager × List Note)
after_sdo_frame t answer None m = Answer (m, [])
after_sdo_frame t answer (Some i) m = after_answer_at t answer i m

-- ---- received frames

unfoldable pub has_boot_up_byte : List ℕ → Bool
has_boot_up_byte bytes = if length bytes == 1 then slice_index_or bytes 0 0 == 0 else false

unfoldable pub after_frame : ℕ → BaseFrame → Manager → Asking Part Content (Manager × List Note)
after_frame t frame m =
    if has_boot_up_byte frame.bytes then after_boot_up t (place_of (error_control_id 0) frame.id m.nodes) m
    else if length frame.bytes == 8 then after_sdo_frame t frame.bytes (place_of (sdo_answer_id 0) frame.id m.nodes) m
    else Answer (m, [])

-- ---- timers: time-outs by node, and then what is periodic

unfoldable pub time_outs : ℕ → Manager → Manager × List Note
time_outs t m = (
  record m {
    nodes = map (node_after t) m.nodes;
    waiting = queue_after_time_outs (timed_out t m.nodes) m.waiting;
  },
  map note_of_time_out (timed_out t m.nodes),
)

abbrev pub send_due : ℕ → Manager → Manager
send_due t m = record m {
  periodic = map (periodic_after t) m.periodic;
  waiting = queue_after t m.number m.periodic m.waiting;
}

unfoldable pub timers : ℕ → Manager → Manager × List Note
timers t m = (send_due t (time_outs t m).0, (time_outs t m).1)

-- ---- the first moment at which the manager is due

-- all moments that are set
unfoldable pub moments : Manager → List ℕ
moments m = next_moments m.periodic ++ deadlines m.nodes

unfoldable pub next_due : Manager → Option ℕ
next_due m = earliest (moments m)
