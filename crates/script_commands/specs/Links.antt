-- What is asked behind the first word of each command of messages (this profile's own).
use Rattle.std.specs.Prelude.{ℕ, List, Result, Ok}
use Rattle.base.specs.Ranges.{is_between}
use Rattle.base.specs.Words.{word, after}
use Rattle.project_messages.specs.declared.message.Message.{Message}
use Rattle.project_messages.specs.Messages.{is_position, is_rpdo_or_any, is_start}
use Rattle.project_edits.specs.declared.fault.EditFault.{EditFault}
use Rattle.project_edits.specs.declared.edit.Edit.{Edit}
use Rattle.project_edits.specs.declared.edit.Edit.TheVariants as edit
use Rattle.project_edits.specs.Forms.{number_within, is_identifier}
use Rattle.cia301.specs.Limits.{is_pdo_number, is_node_number}
use Rattle.script_commands.specs.declared.stated.Stated.{Stated}
use Rattle.base.specs.Steps.{◌>>=◌}
use Rattle.script_commands.specs.Words.{last_word, name, decimal, hexadecimal}

-- the numbers of a message: `ID TPDO TYPE INHIBIT EVENT COB`
unfoldable pub stated_numbers : List ℕ → Result Stated EditFault
stated_numbers rest = do
  last ← last_word (after (after (after (after (after rest)))))
  node ← decimal (word rest)
  tpdo ← decimal (word (after rest))
  transmission ← decimal (word (after (after rest)))
  inhibit ← decimal (word (after (after (after rest))))
  event ← decimal (word (after (after (after (after rest)))))
  cob ← hexadecimal 3 last
  Ok (record { node = node; tpdo = tpdo; transmission = transmission; inhibit = inhibit; event = event; cob = cob })

-- and these, where each is within its limits
unfoldable pub message_within : Stated → Result Message EditFault
message_within stated = do
  node ← number_within is_node_number stated.node
  tpdo ← number_within is_pdo_number stated.tpdo
  transmission ← number_within (is_between 0 0xFF) stated.transmission
  inhibit ← number_within (is_between 0 0xFFFF) stated.inhibit
  event ← number_within (is_between 0 0xFFFF) stated.event
  cob ← number_within is_identifier stated.cob
  Ok (record { node = node; tpdo = tpdo; transmission = transmission; inhibit = inhibit; event = event; cob = cob })

-- `NAME ID TPDO TYPE INHIBIT EVENT COB`
unfoldable pub message_of : List ℕ → Result Edit EditFault
message_of rest = do
  called ← name (word rest)
  stated ← stated_numbers (after rest)
  message ← message_within stated
  Ok (edit.Message called message)

-- `MESSAGE N`
unfoldable pub start_of : List ℕ → Result Edit EditFault
start_of rest = do
  last ← last_word (after rest)
  message ← name (word rest)
  number ← decimal last
  start ← number_within is_start number
  Ok (edit.Start message start)

-- `NAME`
unfoldable pub drop_message_of : List ℕ → Result Edit EditFault
drop_message_of rest = do
  last ← last_word rest
  called ← name last
  Ok (edit.DropMessage called)

-- `MESSAGE POS INDEX SUB`
unfoldable pub source_of : List ℕ → Result Edit EditFault
source_of rest = do
  last ← last_word (after (after (after rest)))
  message ← name (word rest)
  place ← decimal (word (after rest))
  index ← hexadecimal 4 (word (after (after rest)))
  sub ← hexadecimal 2 last
  position ← number_within is_position place
  Ok (edit.Source message position index sub)

-- `MESSAGE POS`
unfoldable pub unsource_of : List ℕ → Result Edit EditFault
unsource_of rest = do
  last ← last_word (after rest)
  message ← name (word rest)
  place ← decimal last
  position ← number_within is_position place
  Ok (edit.Unsource message position)

-- `MESSAGE POS ID INDEX SUB`
unfoldable pub sink_of : List ℕ → Result Edit EditFault
sink_of rest = do
  last ← last_word (after (after (after (after rest))))
  message ← name (word rest)
  place ← decimal (word (after rest))
  number ← decimal (word (after (after rest)))
  index ← hexadecimal 4 (word (after (after (after rest))))
  sub ← hexadecimal 2 last
  position ← number_within is_position place
  node ← number_within is_node_number number
  Ok (edit.Sink message position node index sub)

-- `MESSAGE POS ID`
unfoldable pub unsink_of : List ℕ → Result Edit EditFault
unsink_of rest = do
  last ← last_word (after (after rest))
  message ← name (word rest)
  place ← decimal (word (after rest))
  number ← decimal last
  position ← number_within is_position place
  node ← number_within is_node_number number
  Ok (edit.Unsink message position node)

-- `MESSAGE ID RPDO MS`
unfoldable pub receive_of : List ℕ → Result Edit EditFault
receive_of rest = do
  last ← last_word (after (after (after rest)))
  message ← name (word rest)
  number ← decimal (word (after rest))
  pdo ← decimal (word (after (after rest)))
  time ← decimal last
  node ← number_within is_node_number number
  rpdo ← number_within is_rpdo_or_any pdo
  event ← number_within (is_between 0 0xFFFF) time
  Ok (edit.Receive message node rpdo event)

-- `MESSAGE ID`
unfoldable pub unreceive_of : List ℕ → Result Edit EditFault
unreceive_of rest = do
  last ← last_word (after rest)
  message ← name (word rest)
  number ← decimal last
  node ← number_within is_node_number number
  Ok (edit.Unreceive message node)
