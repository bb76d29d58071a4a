-- What an edit changes of the inputs of a project's parts.
use Rattle.std.specs.Prelude.{ℕ, List}
use Rattle.project_edits.specs.declared.edit.Edit.{Edit}
use Rattle.project_edits.specs.declared.edit.Edit.TheVariants as edit
use Rattle.project_parts.specs.declared.touch.Touch.{Touch as TheTouch}
use Rattle.project_parts.specs.declared.touch.Touch.TheVariants as touch

-- nothing; the bit rate; the manager, which gets this number; what else it is told; the version; the text of the EDS of a name; the node of a number; its
-- parameters; the messages; the event of a number that comes to a time, or that goes
pub data Touch : Type 0 where
  Nothing : Touch
  Rate : Touch
  Manager : ℕ → Touch
  Roster : Touch
  Version : Touch
  Sheet : List ℕ → Touch
  Node : ℕ → Touch
  Parameters : ℕ → Touch
  Messages : Touch
  Event : ℕ → ℕ → Touch
  NoEvent : ℕ → Touch

-- THE TABLE: what an edit changes, from which all marks follow
abbrev pub touch_of : Edit → Touch
touch_of (edit.Version version) = Version
touch_of (edit.Bitrate rate) = Rate
touch_of (edit.Horizon time) = Nothing
touch_of (edit.Manager m) = Manager m.id
touch_of (edit.TimeStamps stamps) = Roster
touch_of (edit.SyncCounter n) = Roster
touch_of (edit.Eds name text) = Sheet name
touch_of (edit.DropEds name) = Sheet name
touch_of (edit.Node id name eds) = Node id
touch_of (edit.Need id mandatory) = Roster
touch_of (edit.DropNode id) = Node id
touch_of (edit.Param id index sub text) = Parameters id
touch_of (edit.Unparam id index sub) = Parameters id
touch_of (edit.Message name m) = Messages
touch_of (edit.Start name n) = Messages
touch_of (edit.DropMessage name) = Messages
touch_of (edit.Source name position index sub) = Messages
touch_of (edit.Unsource name position) = Messages
touch_of (edit.Sink name position node index sub) = Messages
touch_of (edit.Unsink name position node) = Messages
touch_of (edit.Receive name node rpdo event) = Messages
touch_of (edit.Unreceive name node) = Messages
touch_of (edit.Event number e) = Event number e.time
touch_of (edit.DropEvent number) = NoEvent number

-- what the program's own value says
abbrev pub touch_value : TheTouch → Touch
touch_value touch.Nothing = Nothing
touch_value touch.Rate = Rate
touch_value (touch.Manager id) = Manager id
touch_value touch.Roster = Roster
touch_value touch.Version = Version
touch_value (touch.Sheet name) = Sheet name.now
touch_value (touch.Node id) = Node id
touch_value (touch.Parameters id) = Parameters id
touch_value touch.Messages = Messages
touch_value (touch.Event number time) = Event number time
touch_value (touch.NoEvent number) = NoEvent number
