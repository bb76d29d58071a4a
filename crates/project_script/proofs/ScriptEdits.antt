-- The edits of a project's script are edits.
use Rattle.std.proofs.Common.{◌≡◌, ℕ, Bool, true, false, List, [], ◌∷◌, ◌++◌, map}
use Rattle.std.proofs.lemmas.List.Elements.{All-nil, All-cons, All-from_recursion, All-head, All-tail, All-append}
use Rattle.std.proofs.lemmas.List.Elements.{All-map, All-weaker}
use Rattle.std.specs.Prelude.{All, ◌==◌, if◌then◌else◌, Option, Some, None, IfSome}
use Rattle.std.specs.FinMap.{entries}
use Rattle.std.specs.List.{flat_map}
use Rattle.std.proofs.lemmas.Cmp.{nat_cmp_total, nat_list_cmp_total}
use Rattle.std.proofs.lemmas.Map.Lookups.{exact_unsigned, exact_bytes}
use Rattle.co_dict.proofs.PlaceLemmas.{places_exact, places_total}
use Rattle.co_scenario.specs.declared.timed_event.TimedEvent.{TimedEvent}
use Rattle.project_messages.specs.declared.linked.Linked.{Linked}
use Rattle.project_messages.specs.Messages.{is_start, AreReceives, AreSinks, AreSources, IsLinked, IsReceive, IsSink}
use Rattle.project_edits.specs.declared.time_stamps.TimeStamps.{TimeStamps}
use Rattle.project_edits.specs.declared.edit.Edit.{Edit}
use Rattle.project_edits.specs.declared.edit.Edit.TheVariants as edit
use Rattle.project_edits.specs.Eds.{IsEds}
use Rattle.project_edits.specs.Edits.{IsEdit, IsSetting}
use Rattle.project_edits.specs.Forms.{is_name, is_sync_counter}
use Rattle.cia301.specs.Limits.{is_node_number}
use Rattle.project_edits.specs.declared.script_version.ScriptVersion.{ScriptVersion}
use Rattle.project_edits.specs.declared.script_version.ScriptVersion.TheVariants.{One, Two, Three}
use Rattle.co_project.specs.declared.node.Node.{Node}
use Rattle.co_project.specs.Project.{Content}
use Rattle.project_script.specs.Script.{counter_edits, edits, event_edit, message_edits, need_edits, node_edits}
use Rattle.project_script.specs.Script.{param_edit, param_edits, receive_edit, settings, sink_edit, source_edit, start_edits}
use Rattle.project_script.specs.Script.{stamps_edits, text_edit, version_edits}
use Rattle.co_project.specs.Sound.{AreTexts, AreParams, AreTimeStampsOf, IsNodeOf, IsMessageOf, IsEventOf, IsSound}
use Rattle.base.proofs.EachLemmas.{all_entries}

module _ {X Y : Type 0} (P : Y → Type 0) (f : X → List Y) where
  -- what holds of each element of each list holds of each of them all
  pub All-flat_map : (xs : List X) → All (λ x. All P (f x)) xs → All P (flat_map f xs)
  All-flat_map [] h = All-nil P
  All-flat_map (x ∷ xs) h = All-append P (f x) (flat_map f xs) (All-head (λ y. All P (f y)) x xs h)
      (All-flat_map xs (All-tail (λ y. All P (f y)) x xs h))

-- those of the texts
the_text_edits : (p : Content) → IsSound p → All IsEdit (map text_edit (entries p.texts))
unfolding AreTexts IsEdit
the_text_edits p sound = All-map IsEdit text_edit (entries p.texts)
    (all_entries nat_list_cmp_total exact_bytes IsEds p.texts sound.texts.1)

-- one edit, or none
none_or : (t : Bool) (e : Edit) → IsEdit e → All IsEdit (if t then [] else e ∷ [])
none_or true e is = All-nil IsEdit
none_or false e is = All-cons IsEdit e [] is (All-nil IsEdit)

-- that of the need of a node
the_need_edits : (id : ℕ) (mandatory : Bool) → is_node_number id ≡ true → All IsEdit (need_edits id mandatory)
unfolding IsEdit
the_need_edits id true fits = All-cons IsEdit (edit.Need id true) [] fits (All-nil IsEdit)
the_need_edits id false fits = All-nil IsEdit

-- those of a node
the_node_edits : (p : Content) (id : ℕ) (node : Node) → IsNodeOf p id node → All IsEdit (node_edits (id, node))
unfolding IsNodeOf IsEdit
the_node_edits p id node is =
    All-cons IsEdit (edit.Node id node.name node.eds) (need_edits id node.mandatory) (is.0, is.2, is.4)
    (the_need_edits id node.mandatory is.0)

-- those of its parameters
the_param_edits : (p : Content) (id : ℕ) (node : Node) → IsNodeOf p id node → All IsEdit (param_edits (id, node))
unfolding IsNodeOf AreParams IsEdit
the_param_edits p id node is =
    All-map IsEdit (param_edit id) (entries node.params)
    (All-weaker (λ e. IsSetting e.0.0 e.0.1 e.1) (λ e. IsEdit (param_edit id e)) (λ e set. (is.0, set))
    (entries node.params)
    (all_entries places_total places_exact (λ place text. IsSetting place.0 place.1 text) node.params is.6.1))

-- that of a SYNC start value
the_start_edits : (name : List ℕ) (n : ℕ) → is_name name ≡ true → is_start n ≡ true → All IsEdit (start_edits name n)
unfolding IsEdit
the_start_edits name n named fits = none_or (n == 0) (edit.Start name n) (named, fits)

-- those of a message, its SYNC start value, its sources, its sinks and its receives
the_message_edits : (p : Content) (name : List ℕ) (l : Linked) → IsMessageOf p name l
    → All IsEdit (message_edits (name, l))
unfolding IsMessageOf IsLinked AreSources AreSinks AreReceives IsEdit
the_message_edits p name l is =
    let start = start_edits name l.start in
    let sources = map (source_edit name) l.sources in
    let sinks = map (sink_edit name) l.sinks in
    let receives = map (receive_edit name) l.receives in
    All-cons IsEdit (edit.Message name l.message) (start ++ sources ++ sinks ++ receives) (is.0, is.1.0)
    (All-append IsEdit (start ++ sources ++ sinks) receives (All-append IsEdit (start ++ sources) sinks
    (All-append IsEdit start sources (the_start_edits name l.start is.0 is.1.1)
    (All-map IsEdit (source_edit name) l.sources (λ k d within. (is.0, is.1.2.1 k d within, is.1.2.2 k d within))))
    (All-map IsEdit (sink_edit name) l.sinks (All-weaker IsSink (λ s. IsEdit (sink_edit name s))
    (λ s sink. (is.0, sink.0, sink.1, sink.2)) l.sinks is.1.3.1)))
    (All-map IsEdit (receive_edit name) l.receives (All-weaker IsReceive (λ r. IsEdit (receive_edit name r))
    (λ r receive. (is.0, receive.0, receive.1, receive.2)) l.receives is.1.4.1)))

-- that of an event
the_event_edit : (p : Content) (number : ℕ) (e : TimedEvent) → IsEventOf p number e → IsEdit (event_edit (number, e))
unfolding IsEventOf IsEdit
the_event_edit p number e is = (is.0, is.1, is.2)

-- that of the version
the_version_edits : (version : ScriptVersion) → All IsEdit (version_edits version)
unfolding IsEdit
the_version_edits One = All-nil IsEdit
the_version_edits Two = All-cons IsEdit (edit.Version Two) [] tt (All-nil IsEdit)
the_version_edits Three = All-cons IsEdit (edit.Version Three) [] tt (All-nil IsEdit)

-- that of the time stamps
the_stamps_edits : (p : Content) (stamps : Option TimeStamps) → IfSome stamps (AreTimeStampsOf p)
    → All IsEdit (stamps_edits stamps)
unfolding IsEdit
the_stamps_edits p None are = All-nil IsEdit
the_stamps_edits p (Some stamps) are = All-cons IsEdit (edit.TimeStamps (Some stamps)) [] are.1 (All-nil IsEdit)

-- that of the SYNC counter
the_counter_edits : (n : ℕ) → is_sync_counter n ≡ true → All IsEdit (counter_edits n)
unfolding IsEdit
the_counter_edits n fits = none_or (n == 0) (edit.SyncCounter n) fits

-- those of the settings
the_settings_edits : (p : Content) → IsSound p → All IsEdit (settings p)
unfolding IsEdit
the_settings_edits p sound =
    let numbers : List Edit = edit.Bitrate p.bitrate ∷ edit.Horizon p.horizon ∷ edit.Manager p.manager ∷ [] in
    All-append IsEdit (version_edits p.version ++ numbers ++ stamps_edits p.time_stamps) (counter_edits p.sync_counter)
    (All-append IsEdit (version_edits p.version ++ numbers) (stamps_edits p.time_stamps)
    (All-append IsEdit (version_edits p.version) numbers (the_version_edits p.version)
    (All-from_recursion IsEdit numbers (sound.bitrate, (sound.horizon, (sound.manager, tt)))))
    (the_stamps_edits p p.time_stamps sound.time_stamps))
    (the_counter_edits p.sync_counter sound.counter)

-- the edits of a project's script are edits
pub script_edits : (p : Content) → IsSound p → All IsEdit (edits p)
unfolding edits
script_edits p sound =
    let texts = map text_edit (entries p.texts) in
    let nodes = flat_map node_edits (entries p.nodes) in
    let params = flat_map param_edits (entries p.nodes) in
    let messages = flat_map message_edits (entries p.messages) in
    let events = map event_edit (entries p.events) in
    let each_node : All (λ e. IsNodeOf p e.0 e.1)
    (entries p.nodes) = all_entries nat_cmp_total exact_unsigned (IsNodeOf p) p.nodes sound.nodes in
    let nodes_edits = All-flat_map IsEdit node_edits (entries p.nodes)
    (All-weaker (λ e. IsNodeOf p e.0 e.1) (λ e. All IsEdit (node_edits e)) (λ e. the_node_edits p e.0 e.1)
    (entries p.nodes) each_node) in
    let params_edits = All-flat_map IsEdit param_edits (entries p.nodes)
    (All-weaker (λ e. IsNodeOf p e.0 e.1) (λ e. All IsEdit (param_edits e)) (λ e. the_param_edits p e.0 e.1)
    (entries p.nodes) each_node) in
    let messages_edits =
    All-flat_map IsEdit message_edits (entries p.messages)
    (All-weaker (λ e. IsMessageOf p e.0 e.1) (λ e. All IsEdit (message_edits e)) (λ e. the_message_edits p e.0 e.1)
    (entries p.messages)
    (all_entries nat_list_cmp_total exact_bytes (IsMessageOf p) p.messages sound.messages))
    in
    let event_edits =
    All-map IsEdit event_edit (entries p.events)
    (All-weaker (λ e. IsEventOf p e.0 e.1) (λ e. IsEdit (event_edit e)) (λ e. the_event_edit p e.0 e.1)
    (entries p.events) (all_entries nat_cmp_total exact_unsigned (IsEventOf p) p.events sound.events))
    in
    All-append IsEdit (settings p ++ texts ++ nodes ++ params ++ messages) events
    (All-append IsEdit (settings p ++ texts ++ nodes ++ params) messages
    (All-append IsEdit (settings p ++ texts ++ nodes) params
    (All-append IsEdit (settings p ++ texts) nodes (All-append IsEdit (settings p) texts (the_settings_edits p sound)
    (the_text_edits p sound)) nodes_edits) params_edits)
    messages_edits)
    event_edits
