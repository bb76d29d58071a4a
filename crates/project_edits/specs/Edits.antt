-- What every edit keeps to (this profile's own).
use Rattle.std.specs.Prelude.{◌≡◌, ℕ, Bool, List, true, IfSome}
use Rattle.co_scenario.specs.declared.event.Event.{Event}
use Rattle.co_scenario.specs.declared.event.Event.TheVariants as event
use Rattle.project_edits.specs.declared.edit.Edit.{Edit}
use Rattle.project_edits.specs.declared.edit.Edit.TheVariants as edit
use Rattle.project_edits.specs.declared.manager_settings.ManagerSettings.{ManagerSettings}
use Rattle.project_edits.specs.declared.time_stamps.TimeStamps.{TimeStamps}
use Rattle.base.specs.Ranges.{is_between, AreIndices}
use Rattle.project_messages.specs.Messages.{IsMessage, is_position, is_rpdo_or_any, is_start}
use Rattle.project_edits.specs.Forms.{is_name, is_text, is_node_or_all, is_own_index, is_bit_rate, is_time}
use Rattle.cia301.specs.Limits.{is_node_number}
use Rattle.project_edits.specs.Forms.{is_sync_counter, is_period, is_event_number}
use Rattle.project_edits.specs.Eds.{IsEds}

-- the manager (CiA 302): the number of its node, the period of SYNC, and in milliseconds its heartbeat's time and the
-- longest wait for an SDO answer
unfoldable pub IsManager : ManagerSettings → Type 0
IsManager m =
    (is_node_number m.id ≡ true) × (is_period m.sync_us ≡ true) × (is_between 0 65535 m.heartbeat_ms ≡ true)
    × (is_between 1 65535 m.timeout_ms ≡ true)

-- time stamps: they come periodically, and their days have 16 bits
unfoldable pub AreTimeStamps : TimeStamps → Type 0
AreTimeStamps t = (is_between 1000 10000000 t.period_us ≡ true) × (is_between 0 65535 t.first_day ≡ true)

-- a parameter of a node, or what an event sets
unfoldable pub IsSetting : ℕ → ℕ → List ℕ → Type 0
IsSetting index sub text = AreIndices index sub × (is_own_index index ≡ true) × (is_text text ≡ true)

-- what happens to a node, or to all
unfoldable pub IsEvent : Event → Type 0
IsEvent (event.Set node index sub text) = (is_node_number node ≡ true) × IsSetting index sub text
IsEvent (event.Power node on) = is_node_number node ≡ true
IsEvent (event.Nmt node command) = is_node_or_all node ≡ true

-- EVERY EDIT: its names and texts are of their forms, its numbers within their limits, its EDS is one
unfoldable pub IsEdit : Edit → Type 0
IsEdit (edit.Version version) = Unit {0}
IsEdit (edit.Bitrate rate) = is_bit_rate rate ≡ true
IsEdit (edit.Horizon time) = is_time time ≡ true
IsEdit (edit.Manager m) = IsManager m
IsEdit (edit.TimeStamps stamps) = IfSome stamps AreTimeStamps
IsEdit (edit.SyncCounter n) = is_sync_counter n ≡ true
IsEdit (edit.Eds name text) = IsEds name text
IsEdit (edit.DropEds name) = is_name name ≡ true
IsEdit (edit.Node id name eds) = (is_node_number id ≡ true) × (is_name name ≡ true) × (is_name eds ≡ true)
IsEdit (edit.Need id mandatory) = is_node_number id ≡ true
IsEdit (edit.DropNode id) = is_node_number id ≡ true
IsEdit (edit.Param id index sub text) = (is_node_number id ≡ true) × IsSetting index sub text
IsEdit (edit.Unparam id index sub) = (is_node_number id ≡ true) × AreIndices index sub
IsEdit (edit.Message name m) = (is_name name ≡ true) × IsMessage m
IsEdit (edit.Start message n) = (is_name message ≡ true) × (is_start n ≡ true)
IsEdit (edit.DropMessage name) = is_name name ≡ true
IsEdit (edit.Source message position index sub) = (is_name message ≡ true) × (is_position position ≡ true)
    × AreIndices index sub
IsEdit (edit.Unsource message position) = (is_name message ≡ true) × (is_position position ≡ true)
IsEdit (edit.Sink message position node index sub) =
    (is_name message ≡ true) × (is_position position ≡ true) × (is_node_number node ≡ true) × AreIndices index sub
IsEdit (edit.Unsink message position node) = (is_name message ≡ true) × (is_position position ≡ true)
    × (is_node_number node ≡ true)
IsEdit (edit.Receive message node rpdo event) =
    (is_name message ≡ true) × (is_node_number node ≡ true) × (is_rpdo_or_any rpdo ≡ true)
    × (is_between 0 0xFFFF event ≡ true)
IsEdit (edit.Unreceive message node) = (is_name message ≡ true) × (is_node_number node ≡ true)
IsEdit (edit.Event number e) = (is_event_number number ≡ true) × (is_time e.time ≡ true) × IsEvent e.event
IsEdit (edit.DropEvent number) = is_event_number number ≡ true
