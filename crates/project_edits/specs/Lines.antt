-- Edits as lines, as `project` prints them (this profile's own).
use Rattle.std.specs.Prelude.{ℕ, Bool, List, [], ◌∷◌, ◌++◌, codes, decimal, if◌then◌else◌}
use Rattle.project_edits.specs.Stamps.{first_day_of, period_of}
use Rattle.std.specs.Str.{byte}
use Rattle.base.specs.Digits.{byte_digits, index_digits, identifier_digits}
use Rattle.base.specs.Lines.{line_feed, line_count}
use Rattle.co_scenario.specs.declared.event.Event.{Event}
use Rattle.co_scenario.specs.declared.event.Event.TheVariants as event
use Rattle.co_scenario.specs.Commands.{number_of}
use Rattle.project_edits.specs.declared.edit.Edit.{Edit}
use Rattle.project_edits.specs.declared.edit.Edit.TheVariants as edit
use Rattle.project_edits.specs.Versions.{number_of as version_number}

-- words with one space between two of them
abbrev pub line_of_words : List (List ℕ) → List ℕ
line_of_words [] = []
line_of_words (word ∷ []) = word
line_of_words (word ∷ next ∷ words) = word ++ byte " " ∷ line_of_words (next ∷ words)

-- what happens to a node
unfoldable pub event_words : Event → List (List ℕ)
event_words (event.Set node index sub text) = codes "set" ∷ decimal node ∷ index_digits index ∷ byte_digits sub ∷ text
    ∷ []
event_words (event.Power node on) = codes "power" ∷ decimal node ∷ (if on then codes "on" else codes "off") ∷ []
event_words (event.Nmt node command) = codes "nmt" ∷ decimal (number_of command) ∷ decimal node ∷ []

-- whether a node is mandatory
abbrev pub need_word : Bool → List ℕ
need_word mandatory = if mandatory then codes "mandatory" else codes "optional"

-- the words of an edit; a text that it keeps is its last word
unfoldable pub words_of : Edit → List (List ℕ)
words_of (edit.Version version) = codes "version" ∷ decimal (version_number version) ∷ []
words_of (edit.Bitrate rate) = codes "bitrate" ∷ decimal rate ∷ []
words_of (edit.Horizon time) = codes "horizon" ∷ decimal time ∷ []
words_of (edit.Manager m) = codes "manager" ∷ decimal m.id ∷ decimal m.sync_us ∷ decimal m.heartbeat_ms
    ∷ decimal m.timeout_ms ∷ []
words_of (edit.TimeStamps stamps) = codes "time-period" ∷ decimal (period_of stamps) ∷ decimal (first_day_of stamps) ∷ []
words_of (edit.SyncCounter n) = codes "sync-counter" ∷ decimal n ∷ []
words_of (edit.Eds name text) = codes "eds" ∷ name ∷ decimal (line_count text) ∷ []
words_of (edit.DropEds name) = codes "drop-eds" ∷ name ∷ []
words_of (edit.Node id name eds) = codes "node" ∷ decimal id ∷ name ∷ eds ∷ []
words_of (edit.Need id mandatory) = codes "need" ∷ decimal id ∷ need_word mandatory ∷ []
words_of (edit.DropNode id) = codes "drop-node" ∷ decimal id ∷ []
words_of (edit.Param id index sub text) = codes "param" ∷ decimal id ∷ index_digits index ∷ byte_digits sub ∷ text ∷ []
words_of (edit.Unparam id index sub) = codes "unparam" ∷ decimal id ∷ index_digits index ∷ byte_digits sub ∷ []
words_of (edit.Message name m) =
    codes "message" ∷ name ∷ decimal m.node ∷ decimal m.tpdo ∷ decimal m.transmission ∷ decimal m.inhibit
    ∷ decimal m.event ∷ identifier_digits m.cob ∷ []
words_of (edit.Start message n) = codes "start" ∷ message ∷ decimal n ∷ []
words_of (edit.DropMessage name) = codes "drop-message" ∷ name ∷ []
words_of (edit.Source message position index sub) = codes "source" ∷ message ∷ decimal position ∷ index_digits index
    ∷ byte_digits sub ∷ []
words_of (edit.Unsource message position) = codes "unsource" ∷ message ∷ decimal position ∷ []
words_of (edit.Sink message position node index sub) =
    codes "sink" ∷ message ∷ decimal position ∷ decimal node ∷ index_digits index ∷ byte_digits sub ∷ []
words_of (edit.Unsink message position node) = codes "unsink" ∷ message ∷ decimal position ∷ decimal node ∷ []
words_of (edit.Receive message node rpdo event) = codes "receive" ∷ message ∷ decimal node ∷ decimal rpdo ∷ decimal event
    ∷ []
words_of (edit.Unreceive message node) = codes "unreceive" ∷ message ∷ decimal node ∷ []
words_of (edit.Event number e) = codes "event" ∷ decimal number ∷ decimal e.time ∷ event_words e.event
words_of (edit.DropEvent number) = codes "drop-event" ∷ decimal number ∷ []

-- the line of an edit, without its LF
unfoldable pub line_of : Edit → List ℕ
line_of edit = line_of_words (words_of edit)

-- the lines that follow it: those of an EDS
abbrev pub block_of : Edit → List ℕ
block_of (edit.Eds name text) = text
block_of other = []

-- AN EDIT as text: its line, ended by LF, and the lines that follow
unfoldable pub text_of : Edit → List ℕ
text_of edit = line_of edit ++ line_feed ∷ block_of edit
