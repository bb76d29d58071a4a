-- Which parts an edit may leave with other inputs.
use Rattle.std.specs.Prelude.{ℕ, ◌+◌, ◌*◌, Bool, true, false, ◌==◌, ◌&&◌, ◌||◌, not, List}
use Rattle.std.specs.FinMap.{contains_key, get}
use Rattle.std.specs.Option.{option_map_or}
use Rattle.std.specs.Ordering.{eq_by_cmp}
use Rattle.base.specs.Ranges.{is_between}
use Rattle.project_edits.specs.declared.edit.Edit.{Edit}
use Rattle.project_messages.specs.Messages.{name_cmp}
use Rattle.co_project.specs.Project.{Content as Project, has_controller, is_controller}
use Rattle.co_scenario.specs.Scenario.{Events}
use Rattle.co_scenario.specs.declared.timed_event.TimedEvent.{TimedEvent}
use Rattle.project_parts.specs.Touch.{Event, Manager, Messages, NoEvent, Node, Nothing, Parameters, Rate, Roster, Sheet, Touch}
use Rattle.project_parts.specs.Touch.{Version, touch_of}
use Rattle.project_parts.specs.declared.part.Part.{Part}
use Rattle.project_parts.specs.declared.part.Part.TheVariants as part

-- what the parameters of a node go into
abbrev pub is_of_node : ℕ → Part → Bool
is_of_node id (part.Writes n) = n == id
is_of_node id (part.Concise n) = n == id
is_of_node id (part.Dcf n) = n == id
is_of_node id others = false

-- the plan, or what is made of it
abbrev pub is_planned : Part → Bool
is_planned part.Plan = true
is_planned (part.Writes n) = true
is_planned (part.Concise n) = true
is_planned (part.Dcf n) = true
is_planned others = false

-- the device of an EDS, or what is made of devices
abbrev pub is_of_text : List ℕ → Part → Bool
is_of_text name (part.Device e) = eq_by_cmp name_cmp e name
is_of_text name part.Roster = false
is_of_text name part.Diagnostics = false
is_of_text name others = true

-- what says the bit rate
abbrev pub says_rate : Part → Bool
says_rate (part.Dcf n) = true
says_rate part.Roster = true
says_rate others = false

abbrev pub is_roster : Part → Bool
is_roster part.Roster = true
is_roster others = false

-- what the version goes into: the devices, since it says which of their data types count, and so all that is made of
-- them, and the roster
abbrev pub reads_version : Part → Bool
reads_version part.Diagnostics = false
reads_version others = true

-- what a node goes into: the plan and what is made of it, the roster, what it has by its device, and each window, since
-- its steps say what the entries of nodes take
abbrev pub is_of_network : ℕ → Part → Bool
is_of_network id (part.Device e) = false
is_of_network id (part.Node n) = n == id
is_of_network id part.Diagnostics = false
is_of_network id others = true

-- the window in which a time in microseconds lies
abbrev pub is_window_of : ℕ → ℕ → Bool
is_window_of i time = is_between (10000 * i) (10000 * i + 9999) time

-- the window in which the event of a number lies, if there is one
abbrev pub is_window_at : Events → ℕ → ℕ → Bool
is_window_at events number i = option_map_or (λ (e : TimedEvent). is_window_of i e.time) (get events number) false

-- a window for which this holds
abbrev pub is_window : (ℕ → Bool) → Part → Bool
is_window holds (part.Window i) = holds i
is_window holds others = false

-- what the node of a number has by its device
abbrev pub is_held_of : ℕ → Part → Bool
is_held_of id (part.Node n) = n == id
is_held_of id others = false

-- the manager gets a number, and runs in another node then, or in none, or in one that it didn't run in
abbrev pub moves_controller : Project → ℕ → Bool
moves_controller p id = not (id == p.manager.id) && (has_controller p || contains_key p.nodes id)

-- what the number of the manager goes into: where it runs in another node then, all that a node goes into, of both
abbrev pub is_of_manager : Project → ℕ → Part → Bool
is_of_manager p id q = is_roster q || moves_controller p id && (is_of_network id q || is_held_of p.manager.id q)

-- what the node has by its device that the manager runs in: its own writes go into it
abbrev pub holds_writes : Project → Part → Bool
holds_writes p (part.Node n) = is_controller p n
holds_writes p others = false

-- what a change of a project goes into, but for the diagnostics
abbrev pub goes_into : Project → Touch → Part → Bool
goes_into p Nothing q = false
goes_into p Rate q = says_rate q
goes_into p (Manager id) q = is_of_manager p id q
goes_into p Roster q = is_roster q
goes_into p Version q = reads_version q
goes_into p (Sheet name) q = is_of_text name q
goes_into p (Node id) q = is_of_network id q || holds_writes p q
goes_into p (Parameters id) q = is_of_node id q || is_controller p id && is_held_of id q
goes_into p Messages q = is_planned q || holds_writes p q
goes_into p (Event number time) q = is_window (λ i. is_window_of i time || is_window_at p.events number i) q
goes_into p (NoEvent number) q = is_window (is_window_at p.events number) q

-- they are of the whole project
abbrev pub is_wrong : Part → Bool
is_wrong part.Diagnostics = true
is_wrong others = false

-- WHAT IS MADE FROM INPUTS that an edit may change: the diagnostics, whatever it changes, and what the change goes into
abbrev pub is_touched : Project → Edit → Part → Bool
is_touched p e q = is_wrong q || goes_into p (touch_of e) q
