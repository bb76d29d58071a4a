-- The project, and what edits do to it (this profile's own).
use Rattle.std.specs.Prelude.{ℕ, Bool, false, ◌||◌, ◌&&◌, not, ◌==◌, List, [], ◌∷◌, refl, Result, Ok, Err}
use Rattle.std.specs.Prelude.{Option, Some, None, is_some, if◌then◌else◌}
use Rattle.std.specs.Coded.{Coded, code_by, coded×, coded_ℕ, coded_list, coded_option}
use Rattle.std.specs.FinMap.{code, contains_key, empty, insert, remove}
use Rattle.co_scenario.specs.declared.timed_event.TimedEvent.{TimedEvent}
use Rattle.co_scenario.specs.Scenario.{Events}
use Rattle.project_edits.specs.declared.fault.EditFault.{EditFault}
use Rattle.project_edits.specs.declared.fault.EditFault.TheVariants.{Range, Unknown, Taken, InUse, Limit}
use Rattle.project_edits.specs.declared.manager_settings.ManagerSettings.{ManagerSettings}
use Rattle.project_edits.specs.declared.script_version.ScriptVersion.{ScriptVersion}
use Rattle.project_edits.specs.declared.script_version.ScriptVersion.TheVariants.{One}
use Rattle.project_edits.specs.declared.time_stamps.TimeStamps.{TimeStamps}
use Rattle.project_edits.specs.declared.edit.Edit.{Edit}
use Rattle.project_edits.specs.declared.edit.Edit.TheVariants as edit
use Rattle.project_edits.specs.Accepts.{unless}
use Rattle.project_edits.specs.Versions.{is_one, is_three}
use Rattle.project_messages.specs.declared.receive.Receive.{Receive}
use Rattle.project_messages.specs.Messages.{Named, with_changed, is_of_messages, has_receive, has_sink, has_source}
use Rattle.project_messages.specs.Messages.{are_received, have_receives, is_full_for, with_receive, without_receive}
use Rattle.project_messages.specs.Messages.{with_message, with_sink, with_source, with_start, without_sink, without_source}
use Rattle.co_project.specs.declared.node.Node.{Node}
use Rattle.co_project.specs.Tables.{Texts, Nodes, has_no_room, name_taken, is_used, is_named, is_of_known, adds_param}
use Rattle.co_project.specs.Tables.{has_mandatory, put_node, put_need, put_param, drop_param}

-- a project: the version of its script, bit rate in kbit/s, horizon in microseconds, the manager, its time stamps, the
-- last number of the SYNC counter (0 for none), the texts of EDS by name, the nodes by number, the messages by name, and
-- the events by number
pub record Content : Type 0 where
  pub version : ScriptVersion
  pub bitrate : ℕ
  pub horizon : ℕ
  pub manager : ManagerSettings
  pub time_stamps : Option TimeStamps
  pub sync_counter : ℕ
  pub texts : Texts
  pub nodes : Nodes
  pub messages : Named
  pub events : Events

-- a project is stored as its parts, pair by pair
abbrev pub content_code : Coded ScriptVersion → Coded ManagerSettings → Coded TimeStamps → Coded Node → Coded Named
    → Coded TimedEvent → Coded Content
content_code version_code manager_code stamps_code node_code messages_code event_code =
    code_by (ScriptVersion × (ℕ × (ℕ × (ManagerSettings × (Option TimeStamps
    × (ℕ × (Texts × (Nodes × (Named × Events)))))))))
    (coded× version_code (coded× coded_ℕ (coded× coded_ℕ (coded× manager_code (coded× (coded_option stamps_code)
    (coded× coded_ℕ (coded× (code (coded_list coded_ℕ) (coded_list coded_ℕ))
    (coded× (code coded_ℕ node_code) (coded× messages_code (code coded_ℕ event_code))))))))))
    (λ p. (
      p.version,
      (
        p.bitrate,
        (
          p.horizon,
          (
            p.manager,
            (
              p.time_stamps,
              (
                p.sync_counter,
                (
                  p.texts,
                  (
                    p.nodes,
                    (p.messages, p.events),
                  ),
                ),
              ),
            ),
          ),
        ),
      ),
    ))
    (λ t. record {
      version = t.0;
      bitrate = t.1.0;
      horizon = t.1.1.0;
      manager = t.1.1.1.0;
      time_stamps = t.1.1.1.1.0;
      sync_counter = t.1.1.1.1.1.0;
      texts = t.1.1.1.1.1.1.0;
      nodes = t.1.1.1.1.1.1.1.0;
      messages = t.1.1.1.1.1.1.1.1.0;
      events = t.1.1.1.1.1.1.1.1.1;
    }) (λ _. refl)

-- the project that each session begins with
abbrev pub first : Content
first = record {
  version = One;
  bitrate = 1000;
  horizon = 1000000;
  manager = record { id = 127; sync_us = 0; heartbeat_ms = 0; timeout_ms = 500 };
  time_stamps = None;
  sync_counter = 0;
  texts = empty;
  nodes = empty;
  messages = empty;
  events = empty;
}

-- a project with other nodes, or the fault in their place
abbrev pub with_nodes : Content → Result Nodes EditFault → Result Content EditFault
with_nodes p (Ok nodes) = Ok (record p { nodes = nodes })
with_nodes p (Err fault) = Err fault

-- by an RPDO, within an event time
abbrev pub receive_by : ℕ → ℕ → Receive
receive_by rpdo event = record { rpdo = rpdo; event = event }

-- ---- the controller: a node of the manager's number, in which the manager runs

abbrev pub has_controller : Content → Bool
has_controller p = contains_key p.nodes p.manager.id

abbrev pub controller_of : Content → Option ℕ
controller_of p = if has_controller p then Some p.manager.id else None

-- it is the node of this number
abbrev pub is_controller : Content → ℕ → Bool
is_controller p id = has_controller p && (id == p.manager.id)

-- ---- edits

-- THE EDIT: the project that an edit makes of a project, or the first fault that applies
unfoldable pub accept : Content → Edit → Result Content EditFault
accept p (edit.Version version) =
    unless ((
      is_one version && has_mandatory p.nodes
          || not (is_three version) && (have_receives p.messages || is_some p.time_stamps || has_controller p),
      InUse,
    ) ∷ [])
    (record p { version = version })
accept p (edit.Bitrate rate) = Ok (record p { bitrate = rate })
accept p (edit.Horizon time) = Ok (record p { horizon = time })
accept p (edit.Manager m) =
    unless ((not (is_three p.version) && contains_key p.nodes m.id, Taken) ∷ [])
    (record p { manager = m })
accept p (edit.TimeStamps stamps) =
    unless ((not (is_three p.version), Range) ∷ [])
    (record p { time_stamps = stamps })
accept p (edit.SyncCounter n) = Ok (record p { sync_counter = n })
accept p (edit.Eds name text) =
    unless ((has_no_room p.texts name, Limit) ∷ [])
    (record p { texts = insert p.texts name text })
accept p (edit.DropEds name) =
    unless ((not (contains_key p.texts name), Unknown) ∷ (is_used p.nodes name, InUse) ∷ [])
    (record p { texts = remove p.texts name })
accept p (edit.Node id name eds) =
    unless ((not (contains_key p.texts eds), Unknown)
    ∷ (not (is_three p.version) && (id == p.manager.id) || name_taken p.nodes id name, Taken) ∷ [])
    (record p { nodes = put_node p.nodes id name eds })
accept p (edit.Need id mandatory) =
    unless ((is_one p.version, Range) ∷ (not (contains_key p.nodes id), Unknown) ∷ [])
    (record p { nodes = put_need p.nodes id mandatory })
accept p (edit.DropNode id) =
    unless ((not (contains_key p.nodes id), Unknown)
    ∷ (is_of_messages id p.messages || are_received id p.messages || is_named p.events id, InUse) ∷ [])
    (record p { nodes = remove p.nodes id })
accept p (edit.Param id index sub text) = with_nodes p (put_param p.nodes id (index, sub) text)
accept p (edit.Unparam id index sub) = with_nodes p (drop_param p.nodes id (index, sub))
accept p (edit.Message name m) =
    unless ((not (contains_key p.nodes m.node), Unknown) ∷ (is_full_for p.messages name, Limit) ∷ [])
    (record p { messages = with_message p.messages name m })
accept p (edit.Start name n) =
    unless ((not (contains_key p.messages name), Unknown) ∷ [])
    (record p { messages = with_changed (with_start n) p.messages name })
accept p (edit.DropMessage name) =
    unless ((not (contains_key p.messages name), Unknown) ∷ [])
    (record p { messages = remove p.messages name })
accept p (edit.Source name position index sub) =
    unless ((not (contains_key p.messages name), Unknown) ∷ [])
    (record p { messages = with_changed (with_source position (index, sub)) p.messages name })
accept p (edit.Unsource name position) =
    unless ((not (has_source p.messages name position), Unknown) ∷ [])
    (record p { messages = with_changed (without_source position) p.messages name })
accept p (edit.Sink name position node index sub) =
    unless ((not (contains_key p.messages name) || not (contains_key p.nodes node), Unknown) ∷ [])
    (record p { messages = with_changed (with_sink position node (index, sub)) p.messages name })
accept p (edit.Unsink name position node) =
    unless ((not (has_sink p.messages name position node), Unknown) ∷ [])
    (record p { messages = with_changed (without_sink position node) p.messages name })
accept p (edit.Receive name node rpdo event) =
    unless ((not (is_three p.version), Range)
    ∷ (not (contains_key p.messages name) || not (contains_key p.nodes node), Unknown) ∷ [])
    (record p { messages = with_changed (with_receive node (receive_by rpdo event)) p.messages name })
accept p (edit.Unreceive name node) =
    unless ((not (is_three p.version), Range) ∷ (not (has_receive p.messages name node), Unknown) ∷ [])
    (record p { messages = with_changed (without_receive node) p.messages name })
accept p (edit.Event number e) =
    unless ((not (is_of_known p.nodes e.event), Unknown) ∷ [])
    (record p { events = insert p.events number e })
accept p (edit.DropEvent number) =
    unless ((not (contains_key p.events number), Unknown) ∷ [])
    (record p { events = remove p.events number })

-- the edit gives a text, a node, a parameter, a message, a source, a sink, a receive or an event where there is none: no
-- other takes memory
unfoldable pub adds : Content → Edit → Bool
adds p (edit.Eds name text) = not (contains_key p.texts name)
adds p (edit.Node id name eds) = not (contains_key p.nodes id)
adds p (edit.Param id index sub text) = adds_param p.nodes id (index, sub)
adds p (edit.Message name m) = not (contains_key p.messages name)
adds p (edit.Source name position index sub) = not (has_source p.messages name position)
adds p (edit.Sink name position node index sub) = not (has_sink p.messages name position node)
adds p (edit.Receive name node rpdo event) = not (has_receive p.messages name node)
adds p (edit.Event number e) = not (contains_key p.events number)
adds p others = false

-- edits one after the other, the first fault stays
unfoldable pub accept_all : Result Content EditFault → List Edit → Result Content EditFault
accept_all (Err fault) edits = Err fault
accept_all (Ok p) [] = Ok p
accept_all (Ok p) (edit ∷ edits) = accept_all (accept p edit) edits
