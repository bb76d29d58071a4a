-- The printed line of each edit, read as what it asks.
use Rattle.std.proofs.Common.{◌≡◌, ℕ, ◌≤◌, Bool, true, false, List, [], ◌∷◌, ◌++◌, refl, ap, ◌∙◌, lit≤, arith}
use Rattle.std.specs.Prelude.{if◌then◌else◌, Ok, Option, IfSome, codes, decimal}
use Rattle.co_scenario.specs.declared.event.Event.{Event}
use Rattle.co_scenario.specs.declared.event.Event.TheVariants as event
use Rattle.co_scenario.specs.Commands.{number_of}
use Rattle.project_edits.specs.declared.manager_settings.ManagerSettings.{ManagerSettings}
use Rattle.project_edits.specs.declared.script_version.ScriptVersion.{ScriptVersion}
use Rattle.project_edits.specs.declared.time_stamps.TimeStamps.{TimeStamps}
use Rattle.project_edits.specs.Stamps.{first_day_of, period_of}
use Rattle.project_edits.specs.declared.edit.Edit.{Edit}
use Rattle.project_edits.specs.declared.edit.Edit.TheVariants as edit
use Rattle.script_commands.specs.declared.request.Request.TheVariants.{Edit as EditAsked}
use Rattle.base.specs.Digits.{byte_digits, index_digits}
use Rattle.base.specs.Lines.{line_count}
use Rattle.project_edits.specs.Eds.{IsEds}
use Rattle.project_edits.specs.Forms.{is_event_number, is_time}
use Rattle.script_commands.specs.Requests.{command_of, edit_request, event_at_time, happening_of}
use Rattle.project_edits.specs.Edits.{AreTimeStamps, IsEdit, IsManager, IsSetting, IsEvent}
use Rattle.project_edits.specs.Versions.{number_of as version_number}
use Rattle.project_edits.specs.Lines.{event_words, need_word, words_of, line_of}
use Rattle.script_commands.specs.Asked.{asks}
use Rattle.script_commands.proofs.WordLemmas.{IsWord}
use Rattle.script_commands.proofs.NumberLemmas.{number_word, index_is_word, sub_is_word, name_word}
use Rattle.script_commands.proofs.LineLemmas.{Has, Spells, Keeps, last, more, kept, is_short, short, IsRead, command, block}
use Rattle.script_commands.proofs.CommandLemmas.{most, node_below, id_below, rate_below, time_below, period_below}
use Rattle.script_commands.proofs.CommandLemmas.{key_below, short_below, command_below, block_is, bitrate_is, horizon_is}
use Rattle.script_commands.proofs.CommandLemmas.{manager_is, drop_eds_is, node_is, drop_node_is, param_is, unparam_is}
use Rattle.script_commands.proofs.CommandLemmas.{drop_event_is, event_is, set_is, power_is, nmt_is}
use Rattle.script_commands.proofs.CommandLemmas.{counter_below, need_is, sync_counter_is, version_below}
use Rattle.script_commands.proofs.CommandLemmas.{day_below, stamps_below, time_period_is, version_is}
use Rattle.script_commands.proofs.LinkLemmas.{read_message, read_drop_message, read_source, read_unsource, read_sink}
use Rattle.script_commands.proofs.LinkLemmas.{read_receive, read_start, read_unreceive, read_unsink}
use Rattle.script_commands.proofs.BlockLemmas.{lines_counted}

-- ---- words at the end of a line

-- an index, a sub-index and a text
setting : (index sub : ℕ) (text : List ℕ) → IsSetting index sub text
    → Spells (Keeps text) 4022 (index_digits index ++ 32 ∷ (byte_digits sub ++ 32 ∷ text))
    (index_digits index ∷ byte_digits sub ∷ [])
unfolding IsSetting
setting index sub text is = more (index_is_word index (most 0 65535 index is.0.0))
    (more (sub_is_word sub (most 0 255 sub is.0.1)) (kept text is.2))

switch_word : (on : Bool) → IsWord 12 (if on then codes "on" else codes "off")
switch_word true = short (codes "on") refl
switch_word false = short (codes "off") refl

need_is_word : (mandatory : Bool) → IsWord 12 (need_word mandatory)
need_is_word true = short (codes "mandatory") refl
need_is_word false = short (codes "optional") refl

-- ---- events

module _ (key time : ℕ) (numbered : is_event_number key ≡ true) (timed : is_time time ≡ true) where
  -- the line of an event, where what happens is read behind its kind
  event_line : {P : List ℕ → Type 0} {n : ℕ} {line : List ℕ} {words : List (List ℕ)} (kind : List ℕ)
      → is_short kind ≡ true → n ≤ 4048 → Spells P n line words → (e : Event)
      → ((rest : List ℕ) → Has P rest words → happening_of key time kind rest ≡ Ok (event_at_time key time e))
      → IsRead (codes "event" ++ 32 ∷ (decimal key ++ 32 ∷ (decimal time ++ 32 ∷ (kind ++ 32 ∷ line))))
      (Ok (EditAsked (event_at_time key time e)))
  unfolding command_of
  event_line {P = P} {words = words} kind is few rest e happens =
      let line = more (number_word key (key_below key numbered))
      (more (number_word time (time_below time timed)) (more (short kind is) rest)) in
      command (codes "event") refl (omega arith) line refl
      (ap edit_request (event_is key time numbered timed P _ kind words line.has ∙ happens _ line.has.1.1.1))

  read_event : (e : Event) → IsEvent e → IsRead (line_of (event_at_time key time e))
      (Ok (EditAsked (event_at_time key time e)))
  unfolding IsEvent line_of words_of event_words
  read_event (event.Set node index sub text) is =
      event_line (codes "set") refl (lit≤ tt) (more (number_word node (id_below node is.0))
      (setting index sub text is.1)) _
      (λ rest has. set_is key time numbered timed rest node index sub text has is.0 is.1)
  read_event (event.Power node on) fits =
      event_line (codes "power") refl (lit≤ tt) (more (number_word node (id_below node fits)) (last (switch_word on))) _
      (λ rest has. power_is key time numbered timed rest node on has fits)
  read_event (event.Nmt node c) fits =
      event_line (codes "nmt") refl (lit≤ tt) (more (number_word (number_of c) (command_below c))
      (last (number_word node (node_below node fits)))) _
      (λ rest has. nmt_is key time numbered timed rest node c has fits)

-- ---- edits

read_manager : (m : ManagerSettings) → IsManager m → IsRead (line_of (edit.Manager m)) (Ok (EditAsked (edit.Manager m)))
unfolding IsManager line_of words_of command_of
read_manager m is =
    let times = more (number_word m.heartbeat_ms (short_below 0 m.heartbeat_ms is.2))
    (last (number_word m.timeout_ms (short_below 1 m.timeout_ms is.3))) in
    let line = more (number_word m.id (id_below m.id is.0))
    (more (number_word m.sync_us (period_below m.sync_us is.1)) times) in
    command (codes "manager") refl (lit≤ tt) line refl (ap edit_request (manager_is _ m line.has is))

read_stamps : (stamps : Option TimeStamps) → IfSome stamps AreTimeStamps
    → IsRead (line_of (edit.TimeStamps stamps)) (Ok (EditAsked (edit.TimeStamps stamps)))
unfolding line_of words_of command_of
read_stamps stamps is =
    let line = more (number_word (period_of stamps) (stamps_below stamps is))
    (last (number_word (first_day_of stamps) (day_below stamps is))) in
    command (codes "time-period") refl (lit≤ tt) line refl (ap edit_request (time_period_is _ stamps line.has is))

read_eds : (name text : List ℕ) → IsEds name text → IsRead (line_of (edit.Eds name text)) (Ok (asks (edit.Eds name text)))
unfolding line_of words_of
read_eds name text is =
    let few : line_count text ≤ 65536 = omega (arith, is.lines, lines_counted name text is) in
    let line = more (name_word name is.name) (last (number_word (line_count text) (omega arith))) in
    block (codes "eds") refl (lit≤ tt) line refl (block_is _ name (line_count text) line.has is.name few)

-- the line of a version
read_version : (v : ScriptVersion) → IsRead (line_of (edit.Version v)) (Ok (asks (edit.Version v)))
unfolding line_of words_of command_of
read_version v =
    let line = last (number_word (version_number v) (version_below v)) in
    command (codes "version") refl (lit≤ tt) line refl (ap edit_request (version_is _ v line.has))

-- the line of each edit asks for it
pub read_again : (o : Edit) → IsEdit o → IsRead (line_of o) (Ok (asks o))
unfolding IsEdit line_of words_of command_of
read_again (edit.Version v) is = read_version v
read_again (edit.Bitrate rate) fits =
    let line = last (number_word rate (rate_below rate fits)) in
    command (codes "bitrate") refl (lit≤ tt) line refl (ap edit_request (bitrate_is _ rate line.has fits))
read_again (edit.Horizon time) fits =
    let line = last (number_word time (time_below time fits)) in
    command (codes "horizon") refl (lit≤ tt) line refl (ap edit_request (horizon_is _ time line.has fits))
read_again (edit.Manager m) is = read_manager m is
read_again (edit.TimeStamps stamps) are = read_stamps stamps are
read_again (edit.SyncCounter n) fits =
    let line = last (number_word n (counter_below n fits)) in
    command (codes "sync-counter") refl (lit≤ tt) line refl (ap edit_request (sync_counter_is _ n line.has fits))
read_again (edit.Eds name text) is = read_eds name text is
read_again (edit.DropEds name) named =
    let line = last (name_word name named) in
    command (codes "drop-eds") refl (lit≤ tt) line refl (ap edit_request (drop_eds_is _ name line.has named))
read_again (edit.Node id name eds) is =
    let line = more (number_word id (id_below id is.0)) (more (name_word name is.1) (last (name_word eds is.2))) in
    command (codes "node") refl (lit≤ tt) line refl (ap edit_request (node_is _ id name eds line.has is.0 is.1 is.2))
read_again (edit.Need id mandatory) fits =
    let line = more (number_word id (id_below id fits)) (last (need_is_word mandatory)) in
    command (codes "need") refl (lit≤ tt) line refl (ap edit_request (need_is _ id mandatory line.has fits))
read_again (edit.DropNode id) fits =
    let line = last (number_word id (id_below id fits)) in
    command (codes "drop-node") refl (lit≤ tt) line refl (ap edit_request (drop_node_is _ id line.has fits))
read_again (edit.Param id index sub text) is =
    let line = more (number_word id (id_below id is.0)) (setting index sub text is.1) in
    command (codes "param") refl (lit≤ tt) line refl (ap edit_request (param_is _ id index sub text line.has is.0 is.1))
read_again (edit.Unparam id index sub) is =
    let line = more (number_word id (id_below id is.0))
    (more (index_is_word index (most 0 65535 index is.1.0)) (last (sub_is_word sub (most 0 255 sub is.1.1)))) in
    command (codes "unparam") refl (lit≤ tt) line refl (ap edit_request (unparam_is _ id index sub line.has is.0 is.1))
read_again (edit.Message name m) is = read_message name m is.0 is.1
read_again (edit.Start message n) is = read_start message n is.0 is.1
read_again (edit.DropMessage name) named = read_drop_message name named
read_again (edit.Source message position index sub) is = read_source message position index sub is.0 is.1 is.2
read_again (edit.Unsource message position) is = read_unsource message position is.0 is.1
read_again (edit.Sink message position node index sub) is =
    read_sink message position node index sub is.0 is.1 is.2 is.3
read_again (edit.Unsink message position node) is = read_unsink message position node is.0 is.1 is.2
read_again (edit.Receive message node rpdo event) is = read_receive message node rpdo event is.0 is.1 is.2 is.3
read_again (edit.Unreceive message node) is = read_unreceive message node is.0 is.1
read_again (edit.Event key e) is = read_event key e.time is.0 is.1 e.event is.2
read_again (edit.DropEvent key) fits =
    let line = last (number_word key (key_below key fits)) in
    command (codes "drop-event") refl (lit≤ tt) line refl (ap edit_request (drop_event_is _ key line.has fits))
