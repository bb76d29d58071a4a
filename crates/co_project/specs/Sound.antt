-- What every project keeps to, whatever edits made it (this profile's own).
use Rattle.std.specs.Prelude.{◌≡◌, ◌≤◌, ◌==◌, ◌&&◌, not, ℕ, true, false, List, All, IfSome}
use Rattle.std.specs.FinMap.{contains_key, len}
use Rattle.base.specs.Tables.{Each}
use Rattle.co_scenario.specs.declared.timed_event.TimedEvent.{TimedEvent}
use Rattle.project_edits.specs.Forms.{is_name, is_bit_rate, is_time, is_event_number, is_sync_counter}
use Rattle.cia301.specs.Limits.{is_node_number}
use Rattle.project_edits.specs.Versions.{is_one, is_three}
use Rattle.project_edits.specs.Eds.{IsEds}
use Rattle.project_edits.specs.Edits.{AreTimeStamps, IsManager, IsSetting, IsEvent}
use Rattle.project_edits.specs.declared.time_stamps.TimeStamps.{TimeStamps}
use Rattle.project_messages.specs.declared.linked.Linked.{Linked}
use Rattle.project_messages.specs.declared.receive.Receive.{Receive}
use Rattle.project_messages.specs.Messages.{IsLinked}
use Rattle.node_parameters.specs.Params.{Texts as Params}
use Rattle.co_project.specs.declared.node.Node.{Node}
use Rattle.co_project.specs.Tables.{Texts, name_taken, is_of_known}
use Rattle.co_project.specs.Project.{Content}

-- at most 64 texts, each of an EDS
unfoldable pub AreTexts : Texts → Type 0
AreTexts texts = (len texts ≤ 64) × Each IsEds texts

-- at most 4,096 parameters
unfoldable pub AreParams : Params → Type 0
AreParams params = (len params ≤ 4096) × Each (λ place text. IsSetting place.0 place.1 text) params

-- a node of the project: its number isn't the manager's before version 3, its name no other node's, its EDS is there; in
-- version 1 it isn't mandatory
unfoldable pub IsNodeOf : Content → ℕ → Node → Type 0
IsNodeOf p id node =
    (is_node_number id ≡ true) × ((not (is_three p.version) && (id == p.manager.id)) ≡ false)
    × (is_name node.name ≡ true) × (name_taken p.nodes id node.name ≡ false)
    × (is_name node.eds ≡ true) × (contains_key p.texts node.eds ≡ true)
    × AreParams node.params
    × ((is_one p.version && node.mandatory) ≡ false)

-- time stamps of the project: there are such in version 3 alone
abbrev pub AreTimeStampsOf : Content → TimeStamps → Type 0
AreTimeStampsOf p stamps = (is_three p.version ≡ true) × AreTimeStamps stamps

-- a receive of a message of the project: there are such in version 3 alone, and its node is there
abbrev pub IsReceiveOf : Content → ℕ × Receive → Type 0
IsReceiveOf p r = (is_three p.version ≡ true) × (contains_key p.nodes r.0 ≡ true)

-- a message of the project: its sender, the nodes of its sinks and those of its receives are there
unfoldable pub IsMessageOf : Content → List ℕ → Linked → Type 0
IsMessageOf p name linked =
    (is_name name ≡ true) × IsLinked linked
    × (contains_key p.nodes linked.message.node ≡ true) × All (λ s. contains_key p.nodes s.0.1 ≡ true) linked.sinks
    × All (IsReceiveOf p) linked.receives

-- an event of the project: its node is there
unfoldable pub IsEventOf : Content → ℕ → TimedEvent → Type 0
IsEventOf p number e =
    (is_event_number number ≡ true) × (is_time e.time ≡ true) × IsEvent e.event × (is_of_known p.nodes e.event ≡ true)

-- EVERY PROJECT: its settings, texts, nodes, at most 1,024 messages, and events
pub record IsSound (p : Content) : Type 0 where
  pub bitrate : is_bit_rate p.bitrate ≡ true
  pub horizon : is_time p.horizon ≡ true
  pub manager : IsManager p.manager
  pub time_stamps : IfSome p.time_stamps (AreTimeStampsOf p)
  pub counter : is_sync_counter p.sync_counter ≡ true
  pub texts : AreTexts p.texts
  pub nodes : Each (IsNodeOf p) p.nodes
  pub count : len p.messages ≤ 1024
  pub messages : Each (IsMessageOf p) p.messages
  pub events : Each (IsEventOf p) p.events
