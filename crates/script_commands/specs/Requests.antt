-- What one line asks (this profile's own).
use Rattle.std.specs.Prelude.{ℕ, Bool, true, false, ◌||◌, ◌&&◌, not, List, nat_lt, if◌then◌else◌, Option, Some, None}
use Rattle.std.specs.Prelude.{Result, Ok, Err, codes}
use Rattle.std.specs.Str.{bytes_eq}
use Rattle.project_edits.specs.declared.fault.EditFault.{EditFault}
use Rattle.project_edits.specs.declared.fault.EditFault.TheVariants.{Syntax, Range}
use Rattle.project_edits.specs.declared.edit.Edit.{Edit}
use Rattle.project_edits.specs.declared.edit.Edit.TheVariants as edit
use Rattle.co_scenario.specs.declared.event.Event.{Event}
use Rattle.co_scenario.specs.declared.event.Event.TheVariants as event
use Rattle.co_scenario.specs.declared.nmt_command.NmtCommand.{NmtCommand}
use Rattle.co_scenario.specs.Commands.{command_of as nmt_command}
use Rattle.script_commands.specs.declared.request.Request.{Request}
use Rattle.script_commands.specs.declared.request.Request.TheVariants.{Edit as EditAsked, Query as QueryAsked, Block}
use Rattle.script_commands.specs.declared.query.Query.{Query}
use Rattle.script_commands.specs.declared.query.Query.TheVariants.{Dcf, Cdcf, Diag, Trace, Project}
use Rattle.base.specs.Blanks.{is_blank_line}
use Rattle.base.specs.Words.{word, after}
use Rattle.project_edits.specs.Eds.{most_lines}
use Rattle.base.specs.Ranges.{is_between}
use Rattle.project_edits.specs.Forms.{is_name, number_within, is_node_or_all, is_own_index, is_bit_rate, is_time}
use Rattle.cia301.specs.Limits.{is_node_number}
use Rattle.project_edits.specs.Forms.{is_sync_counter, is_period, is_event_number}
use Rattle.project_edits.specs.Stamps.{stamps_of}
use Rattle.project_edits.specs.Versions.{version_of as version_by_number}
use Rattle.base.specs.Steps.{◌>>=◌}
use Rattle.script_commands.specs.Links.{message_of, start_of, drop_message_of, source_of, unsource_of, sink_of, unsink_of}
use Rattle.script_commands.specs.Links.{receive_of, unreceive_of}
use Rattle.script_commands.specs.Words.{last_word, is_bad_line, name, decimal, hexadecimal, text}

-- an edit is asked
abbrev pub edit_request : Result Edit EditFault → Result Request EditFault
edit_request (Ok edit) = Ok (EditAsked edit)
edit_request (Err fault) = Err fault

-- a query is asked
abbrev pub query_request : Result Query EditFault → Result Request EditFault
query_request (Ok query) = Ok (QueryAsked query)
query_request (Err fault) = Err fault

-- nothing is what a number out of its limits names
abbrev or_range : {X : Type 0} → Option X → Result X EditFault
or_range None = Err Range
or_range (Some x) = Ok x

-- a block has up to 65,536 lines
abbrev pub block_lines : ℕ → Result ℕ EditFault
block_lines n = if nat_lt most_lines n then Err Syntax else Ok n

-- the name of an EDS, where its command is of its form
abbrev block_name : Bool → List ℕ → Option (List ℕ)
block_name is_bad word = if is_bad || not (is_name word) then None else Some word

-- `NAME LINES`: a block follows, whatever else is wrong with the line; then it has no name
unfoldable pub block_of : Bool → List ℕ → Result Request EditFault
block_of is_bad rest = do
  last ← last_word (after rest)
  number ← decimal last
  lines ← block_lines number
  Ok (Block (block_name is_bad (word rest)) lines)

-- `ID`
unfoldable pub id_of : List ℕ → Result ℕ EditFault
id_of rest = do
  last ← last_word rest
  id ← decimal last
  number_within is_node_number id

-- the only word that follows, a name
abbrev name_of : List ℕ → Result (List ℕ) EditFault
name_of rest = do
  last ← last_word rest
  name last

-- `V`
unfoldable pub version_of : List ℕ → Result Edit EditFault
version_of rest = do
  last ← last_word rest
  number ← decimal last
  version ← version_by_number number
  Ok (edit.Version version)

-- `K`, in kbit/s
unfoldable pub bitrate_of : List ℕ → Result Edit EditFault
bitrate_of rest = do
  last ← last_word rest
  number ← decimal last
  rate ← number_within is_bit_rate number
  Ok (edit.Bitrate rate)

-- `US`
unfoldable pub horizon_of : List ℕ → Result Edit EditFault
horizon_of rest = do
  last ← last_word rest
  number ← decimal last
  time ← number_within is_time number
  Ok (edit.Horizon time)

-- `ID SYNC_US HB_MS TIMEOUT_MS`
unfoldable pub manager_of : List ℕ → Result Edit EditFault
manager_of rest = do
  last ← last_word (after (after (after rest)))
  number ← decimal (word rest)
  period ← decimal (word (after rest))
  heartbeat ← decimal (word (after (after rest)))
  timeout ← decimal last
  id ← number_within is_node_number number
  sync ← number_within is_period period
  producer ← number_within (is_between 0 65535) heartbeat
  wait ← number_within (is_between 1 65535) timeout
  Ok (edit.Manager (record { id = id; sync_us = sync; heartbeat_ms = producer; timeout_ms = wait }))

-- `US DAYS`
unfoldable pub time_period_of : List ℕ → Result Edit EditFault
time_period_of rest = do
  last ← last_word (after rest)
  number ← decimal (word rest)
  days ← decimal last
  period ← number_within is_period number
  first_day ← number_within (is_between 0 65535) days
  Ok (edit.TimeStamps (stamps_of period first_day))

-- `N`
unfoldable pub sync_counter_of : List ℕ → Result Edit EditFault
sync_counter_of rest = do
  last ← last_word rest
  number ← decimal last
  counter ← number_within is_sync_counter number
  Ok (edit.SyncCounter counter)

-- `NAME`
unfoldable pub drop_eds_of : List ℕ → Result Edit EditFault
drop_eds_of rest = do
  called ← name_of rest
  Ok (edit.DropEds called)

-- `ID NAME EDS`
unfoldable pub node_of : List ℕ → Result Edit EditFault
node_of rest = do
  last ← last_word (after (after rest))
  number ← decimal (word rest)
  called ← name (word (after rest))
  eds ← name last
  id ← number_within is_node_number number
  Ok (edit.Node id called eds)

-- `mandatory` or `optional`
abbrev pub is_mandatory : List ℕ → Result Bool EditFault
is_mandatory word =
    if bytes_eq word (codes "mandatory") then Ok true
    else if bytes_eq word (codes "optional") then Ok false
    else Err Syntax

-- `ID mandatory` or `ID optional`
unfoldable pub need_of : List ℕ → Result Edit EditFault
need_of rest = do
  last ← last_word (after rest)
  number ← decimal (word rest)
  mandatory ← is_mandatory last
  id ← number_within is_node_number number
  Ok (edit.Need id mandatory)

-- `ID`
unfoldable pub drop_node_of : List ℕ → Result Edit EditFault
drop_node_of rest = do
  id ← id_of rest
  Ok (edit.DropNode id)

-- `ID INDEX SUB TEXT`
unfoldable pub param_of : List ℕ → Result Edit EditFault
param_of rest = do
  number ← decimal (word rest)
  entry ← hexadecimal 4 (word (after rest))
  sub ← hexadecimal 2 (word (after (after rest)))
  kept ← text (after (after (after rest)))
  id ← number_within is_node_number number
  index ← number_within is_own_index entry
  Ok (edit.Param id index sub kept)

-- `ID INDEX SUB`
unfoldable pub unparam_of : List ℕ → Result Edit EditFault
unparam_of rest = do
  last ← last_word (after (after rest))
  number ← decimal (word rest)
  index ← hexadecimal 4 (word (after rest))
  sub ← hexadecimal 2 last
  id ← number_within is_node_number number
  Ok (edit.Unparam id index sub)

-- an event at its time, by its number
abbrev pub event_at_time : ℕ → ℕ → Event → Edit
event_at_time number time happening = edit.Event number (record { time = time; event = happening })

-- `ID INDEX SUB TEXT` after `K TIME set`
unfoldable pub set_of : ℕ → ℕ → List ℕ → Result Edit EditFault
set_of key moment rest = do
  node ← decimal (word rest)
  entry ← hexadecimal 4 (word (after rest))
  sub ← hexadecimal 2 (word (after (after rest)))
  kept ← text (after (after (after rest)))
  number ← number_within is_event_number key
  time ← number_within is_time moment
  id ← number_within is_node_number node
  index ← number_within is_own_index entry
  Ok (event_at_time number time (event.Set id index sub kept))

-- `on` or `off`
abbrev pub switch : List ℕ → Result Bool EditFault
switch word =
    if bytes_eq word (codes "on") then Ok true
    else if bytes_eq word (codes "off") then Ok false
    else Err Syntax

-- `ID on` or `ID off` after `K TIME power`
unfoldable pub power_of : ℕ → ℕ → List ℕ → Result Edit EditFault
power_of key moment rest = do
  last ← last_word (after rest)
  node ← decimal (word rest)
  on ← switch last
  number ← number_within is_event_number key
  time ← number_within is_time moment
  id ← number_within is_node_number node
  Ok (event_at_time number time (event.Power id on))

-- a command of the network management (CiA 301) by its number
abbrev pub nmt : ℕ → Result NmtCommand EditFault
nmt n = or_range (nmt_command n)

-- `CMD ID` after `K TIME nmt`
unfoldable pub nmt_of : ℕ → ℕ → List ℕ → Result Edit EditFault
nmt_of key moment rest = do
  last ← last_word (after rest)
  asked ← decimal (word rest)
  node ← decimal last
  number ← number_within is_event_number key
  time ← number_within is_time moment
  command ← nmt asked
  id ← number_within is_node_or_all node
  Ok (event_at_time number time (event.Nmt id command))

-- what a kind of event and the rest of its line ask
abbrev pub happening_of : ℕ → ℕ → List ℕ → List ℕ → Result Edit EditFault
happening_of key moment kind rest =
    if bytes_eq kind (codes "set") then set_of key moment rest
    else if bytes_eq kind (codes "power") then power_of key moment rest
    else if bytes_eq kind (codes "nmt") then nmt_of key moment rest
    else Err Syntax

-- `K TIME`, and what happens then
unfoldable pub event_of : List ℕ → Result Edit EditFault
event_of rest = do
  key ← decimal (word rest)
  moment ← decimal (word (after rest))
  happening_of key moment (word (after (after rest))) (after (after (after rest)))

-- `K`
unfoldable pub drop_event_of : List ℕ → Result Edit EditFault
drop_event_of rest = do
  last ← last_word rest
  key ← decimal last
  number ← number_within is_event_number key
  Ok (edit.DropEvent number)

-- what a query asks
unfoldable pub query_of : List ℕ → List ℕ → Result Query EditFault
query_of first rest =
    if bytes_eq first (codes "dcf") then (id_of rest >>= λ id. Ok (Dcf id))
    else if bytes_eq first (codes "cdcf") then (id_of rest >>= λ id. Ok (Cdcf id))
    else if bytes_eq first (codes "diag") && is_blank_line rest then Ok Diag
    else if bytes_eq first (codes "trace") && is_blank_line rest then Ok Trace
    else if bytes_eq first (codes "project") && is_blank_line rest then Ok Project
    else Err Syntax

-- what is asked of messages, or by a query
unfoldable pub link_of : List ℕ → List ℕ → Result Request EditFault
link_of first rest =
    if bytes_eq first (codes "message") then edit_request (message_of rest)
    else if bytes_eq first (codes "start") then edit_request (start_of rest)
    else if bytes_eq first (codes "drop-message") then edit_request (drop_message_of rest)
    else if bytes_eq first (codes "source") then edit_request (source_of rest)
    else if bytes_eq first (codes "unsource") then edit_request (unsource_of rest)
    else if bytes_eq first (codes "sink") then edit_request (sink_of rest)
    else if bytes_eq first (codes "unsink") then edit_request (unsink_of rest)
    else if bytes_eq first (codes "receive") then edit_request (receive_of rest)
    else if bytes_eq first (codes "unreceive") then edit_request (unreceive_of rest)
    else query_request (query_of first rest)

-- what a first word and the rest of its line ask
unfoldable pub command_of : List ℕ → List ℕ → Result Request EditFault
command_of first rest =
    if bytes_eq first (codes "version") then edit_request (version_of rest)
    else if bytes_eq first (codes "bitrate") then edit_request (bitrate_of rest)
    else if bytes_eq first (codes "horizon") then edit_request (horizon_of rest)
    else if bytes_eq first (codes "manager") then edit_request (manager_of rest)
    else if bytes_eq first (codes "time-period") then edit_request (time_period_of rest)
    else if bytes_eq first (codes "sync-counter") then edit_request (sync_counter_of rest)
    else if bytes_eq first (codes "drop-eds") then edit_request (drop_eds_of rest)
    else if bytes_eq first (codes "node") then edit_request (node_of rest)
    else if bytes_eq first (codes "need") then edit_request (need_of rest)
    else if bytes_eq first (codes "drop-node") then edit_request (drop_node_of rest)
    else if bytes_eq first (codes "param") then edit_request (param_of rest)
    else if bytes_eq first (codes "unparam") then edit_request (unparam_of rest)
    else if bytes_eq first (codes "event") then edit_request (event_of rest)
    else if bytes_eq first (codes "drop-event") then edit_request (drop_event_of rest)
    else link_of first rest

-- THE REQUEST: what a line asks. The line has neither the LF nor the CRs at its end
unfoldable pub request : List ℕ → Result Request EditFault
request line =
    if bytes_eq (word line) (codes "eds") then block_of (is_bad_line line) (after line)
    else if is_bad_line line then Err Syntax
    else command_of (word line) (after line)
