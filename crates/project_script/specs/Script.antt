-- The script of a project: the edits that make it (this profile's own).
use Rattle.std.specs.Prelude.{ℕ, Bool, ◌==◌, List, [], ◌∷◌, ◌++◌, map, if◌then◌else◌, true, Option, Some, None}
use Rattle.std.specs.List.{flat_map}
use Rattle.std.specs.FinMap.{entries}
use Rattle.co_scenario.specs.declared.timed_event.TimedEvent.{TimedEvent}
use Rattle.project_edits.specs.declared.script_version.ScriptVersion.{ScriptVersion}
use Rattle.project_edits.specs.declared.script_version.ScriptVersion.TheVariants.{One, Two, Three}
use Rattle.project_edits.specs.declared.time_stamps.TimeStamps.{TimeStamps}
use Rattle.project_edits.specs.declared.edit.Edit.{Edit}
use Rattle.project_edits.specs.declared.edit.Edit.TheVariants as edit
use Rattle.project_messages.specs.declared.linked.Linked.{Linked}
use Rattle.project_messages.specs.declared.receive.Receive.{Receive}
use Rattle.project_edits.specs.Lines.{text_of}
use Rattle.co_project.specs.declared.node.Node.{Node}
use Rattle.co_project.specs.Project.{Content}

-- the version, where it isn't that of the first project
abbrev pub version_edits : ScriptVersion → List Edit
version_edits One = []
version_edits Two = edit.Version Two ∷ []
version_edits Three = edit.Version Three ∷ []

-- the time stamps, where there are some
abbrev pub stamps_edits : Option TimeStamps → List Edit
stamps_edits None = []
stamps_edits (Some stamps) = edit.TimeStamps (Some stamps) ∷ []

-- the last number of the SYNC counter, where there is one
abbrev pub counter_edits : ℕ → List Edit
counter_edits n = if n == 0 then [] else edit.SyncCounter n ∷ []

-- the settings of a project: its version, its bit rate, its horizon, its manager with its time stamps, and its SYNC
-- counter
abbrev pub settings : Content → List Edit
settings p =
    version_edits p.version ++ (edit.Bitrate p.bitrate ∷ edit.Horizon p.horizon ∷ edit.Manager p.manager ∷ [])
    ++ stamps_edits p.time_stamps ++ counter_edits p.sync_counter

abbrev pub text_edit : List ℕ × List ℕ → Edit
text_edit e = edit.Eds e.0 e.1

-- that a node is mandatory, where it is
abbrev pub need_edits : ℕ → Bool → List Edit
need_edits id mandatory = if mandatory then edit.Need id true ∷ [] else []

-- a node without its parameters
abbrev pub node_edits : ℕ × Node → List Edit
node_edits e = edit.Node e.0 e.1.name e.1.eds ∷ need_edits e.0 e.1.mandatory

abbrev pub param_edit : ℕ → (ℕ × ℕ) × List ℕ → Edit
param_edit id e = edit.Param id e.0.0 e.0.1 e.1

abbrev pub param_edits : ℕ × Node → List Edit
param_edits e = map (param_edit e.0) (entries e.1.params)

abbrev pub source_edit : List ℕ → ℕ × (ℕ × ℕ) → Edit
source_edit name e = edit.Source name e.0 e.1.0 e.1.1

abbrev pub sink_edit : List ℕ → (ℕ × ℕ) × (ℕ × ℕ) → Edit
sink_edit name e = edit.Sink name e.0.0 e.0.1 e.1.0 e.1.1

abbrev pub receive_edit : List ℕ → ℕ × Receive → Edit
receive_edit name e = edit.Receive name e.0 e.1.rpdo e.1.event

-- the SYNC start value of a message, where it has one
abbrev pub start_edits : List ℕ → ℕ → List Edit
start_edits name start = if start == 0 then [] else edit.Start name start ∷ []

-- a message, its SYNC start value, its sources by position, its sinks by position and node, and its receives by node
abbrev pub message_edits : List ℕ × Linked → List Edit
message_edits e =
    edit.Message e.0 e.1.message
    ∷ (start_edits e.0 e.1.start ++ map (source_edit e.0) e.1.sources ++ map (sink_edit e.0) e.1.sinks
    ++ map (receive_edit e.0) e.1.receives)

abbrev pub event_edit : ℕ × TimedEvent → Edit
event_edit e = edit.Event e.0 e.1

-- the edits that make a project of the first one: its settings, the texts by name, the nodes by number, their
-- parameters by node and entry, the messages by name, each with its start value, its sources, its sinks and its
-- receives, and the events by number
unfoldable pub edits : Content → List Edit
edits p =
    settings p ++ map text_edit (entries p.texts) ++ flat_map node_edits (entries p.nodes) ++ flat_map param_edits (entries p.nodes)
    ++ flat_map message_edits (entries p.messages) ++ map event_edit (entries p.events)

-- THE SCRIPT: these edits as text
unfoldable pub script : Content → List ℕ
script p = flat_map text_of (edits p)
