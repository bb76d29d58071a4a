-- Each edit that is taken leaves a project that keeps to what every project does.
use Rattle.std.proofs.Common.{◌≡◌, ◌≤◌, ℕ, sym, ◌∙◌, List, [], ◌∷◌, Bool, true, false, not, ◌&&◌, ◌||◌, ◌==◌, Option}
use Rattle.std.proofs.Common.{Some, None, Ok, IfSome, is_some, refl, ap, subst, arith}
use Rattle.std.proofs.Math.Path.{ap₂}
use Rattle.std.proofs.lemmas.Bool.{true≢false, false_from_ne_true, or_parts, not-false, eqb-true}
use Rattle.std.specs.Option.{option_map_or}
use Rattle.std.specs.Ordering.{nat_cmp}
use Rattle.std.specs.Str.{bytes_eq}
use Rattle.std.specs.FinMap.{FinMap, contains_key, empty, get, insert, len, len-empty, remove}
use Rattle.std.proofs.lemmas.Cmp.{nat_cmp_total, nat_list_cmp_total, nat_eq_equiv, nat_list_eq_equiv}
use Rattle.std.proofs.lemmas.Map.Lookups.{exact_unsigned, exact_bytes}
use Rattle.std.proofs.lemmas.Slice.Eq.{bytes_eq-Decides}
use Rattle.co_scenario.specs.declared.timed_event.TimedEvent.{TimedEvent}
use Rattle.co_scenario.specs.Scenario.{node_of}
use Rattle.base.proofs.TableLemmas.{removed_elsewhere}
use Rattle.project_messages.specs.declared.linked.Linked.{Linked}
use Rattle.project_messages.specs.declared.message.Message.{Message}
use Rattle.project_messages.specs.Messages.{with_changed, is_of_messages, is_full_for as is_full_of, linked_to, with_message}
use Rattle.project_messages.specs.Messages.{with_sink, with_source, with_start, without_sink, without_source, name_cmp}
use Rattle.project_messages.specs.Messages.{are_received, has_receive, have_receives, with_receive, without_receive, Named}
use Rattle.project_edits.specs.declared.fault.EditFault.{EditFault}
use Rattle.project_edits.specs.declared.fault.EditFault.TheVariants.{Range, Unknown}
use Rattle.project_edits.specs.declared.manager_settings.ManagerSettings.{ManagerSettings}
use Rattle.project_edits.specs.declared.script_version.ScriptVersion.{ScriptVersion}
use Rattle.project_edits.specs.declared.script_version.ScriptVersion.TheVariants.{One, Two, Three}
use Rattle.project_edits.specs.declared.time_stamps.TimeStamps.{TimeStamps}
use Rattle.project_edits.specs.declared.edit.Edit.{Edit}
use Rattle.project_edits.specs.declared.edit.Edit.TheVariants as edit
use Rattle.project_edits.specs.Accepts.{unless}
use Rattle.project_edits.specs.Eds.{IsEds}
use Rattle.project_edits.specs.Edits.{AreTimeStamps, IsEdit, IsManager, IsSetting}
use Rattle.project_edits.specs.Forms.{is_bit_rate, is_sync_counter, is_time}
use Rattle.project_edits.specs.Versions.{is_one, is_three}
use Rattle.co_dict.specs.Places.{place_cmp}
use Rattle.co_dict.proofs.PlaceLemmas.{places_exact, places_total}
use Rattle.node_parameters.specs.Params.{Texts as Params, is_full_for}
use Rattle.co_project.specs.declared.node.Node.{Node}
use Rattle.co_project.specs.Tables.{Texts, Nodes, name_taken, has_no_room, is_used, is_named, is_of}
use Rattle.co_project.specs.Tables.{is_of_known, has_mandatory, put_node, node_after_put, with_need, with_param}
use Rattle.co_project.specs.Tables.{without_param}
use Rattle.co_project.specs.Project.{Content, first, accept, has_controller, receive_by, with_nodes}
use Rattle.base.specs.Tables.{Each}
use Rattle.co_project.specs.Sound.{AreTexts, AreParams, AreTimeStampsOf, IsNodeOf, IsMessageOf, IsEventOf, IsSound}
use Rattle.base.proofs.EachLemmas.{each_empty, each_fails, each_found, each_put, each_removed, each_weaker, fewer}
use Rattle.base.proofs.EachLemmas.{known_after_put, none_pass, room_for}
use Rattle.co_project.proofs.KeepsMessages.{as_many, message_sent, messages_changed, messages_with_node}
use Rattle.co_project.proofs.KeepsMessages.{messages_without_node, sink_kept, source_kept, start_kept, still_there}
use Rattle.co_project.proofs.KeepsMessages.{messages_in_version, receive_kept, unreceive_kept, unsink_kept, unsource_kept}

-- ---- texts

-- no texts
no_texts : AreTexts empty
unfolding AreTexts
no_texts = (rw (len-empty name_cmp (List ℕ)) (omega arith), each_empty IsEds empty refl)

-- texts with one more, or with another in its place
texts_put : (texts : Texts) (name text : List ℕ) → AreTexts texts → IsEds name text → has_no_room texts name ≡ false
    → AreTexts (insert texts name text)
unfolding AreTexts
texts_put texts name text are eds room = (
  room_for nat_list_cmp_total 64 texts name text are.0 room,
  each_put nat_list_cmp_total exact_bytes IsEds texts name text are.1 eds,
)

-- texts without one
texts_dropped : (texts : Texts) (name : List ℕ) → AreTexts texts → AreTexts (remove texts name)
unfolding AreTexts
texts_dropped texts name are = (
  fewer nat_list_cmp_total texts name 64 are.0,
  each_removed nat_list_cmp_total exact_bytes IsEds texts name are.1,
)

-- ---- parameters

-- an entry is set to a text
abbrev IsSet : ℕ × ℕ → List ℕ → Type 0
IsSet place text = IsSetting place.0 place.1 text

-- no parameters
no_params : AreParams empty
unfolding AreParams
no_params = (rw (len-empty place_cmp (List ℕ)) (omega arith), each_empty IsSet empty refl)

-- parameters with one more, or with another in its place
params_put : (params : Params) (place : ℕ × ℕ) (text : List ℕ) → AreParams params → IsSetting place.0 place.1 text
    → is_full_for params place ≡ false → AreParams (insert params place text)
unfolding AreParams
params_put params place text are setting room = (
  room_for places_total 4096 params place text are.0 room,
  each_put places_total places_exact IsSet params place text are.1 setting,
)

-- parameters without one
params_dropped : (params : Params) (place : ℕ × ℕ) → AreParams params → AreParams (remove params place)
unfolding AreParams
params_dropped params place are = (
  fewer places_total params place 4096 are.0,
  each_removed places_total places_exact IsSet params place are.1,
)

-- ---- keys that differ

-- another name is left where one is taken away
still_named : (texts : Texts) (gone name : List ℕ) → bytes_eq name gone ≡ false
    → get (remove texts gone) name ≡ get texts name
still_named texts gone name other =
    removed_elsewhere nat_list_cmp_total exact_bytes texts gone name
    (λ same. true≢false (sym ((bytes_eq-Decides name gone).1 same) ∙ other))

-- a number that a table has isn't one that it hasn't
other_number : {X : Type 0} (m : FinMap nat_cmp X) (id n : ℕ) (x : X) → contains_key m id ≡ false → get m n ≡ Some x
    → (n == id) ≡ false
other_number m id n x none there = false_from_ne_true (n == id)
    (λ same. true≢false (sym (rw (sym (eqb-true n id same), there) refl) ∙ none))

-- where the manager's number isn't a node's, or need not be another, no node has it, or may have it
apart_from_manager : {X : Type 0} (m : FinMap nat_cmp X) (third : Bool) (manager id : ℕ) (x : X)
    → (not third && contains_key m manager) ≡ false → get m id ≡ Some x → (not third && (id == manager)) ≡ false
apart_from_manager m true manager id x free there = refl
apart_from_manager m false manager id x free there = other_number m manager id x free there

-- ---- nodes

-- the number and the name of an entry clash with those of a node
abbrev clashes : ℕ → List ℕ → ℕ × Node → Bool
clashes id name e = not (e.0 == id) && bytes_eq e.1.name name

-- if a node doesn't clash with another, the other doesn't clash with it
turned : (e : ℕ × Node) (id : ℕ) (node : Node) → clashes id node.name e ≡ false
    → clashes e.0 e.1.name (id, node) ≡ false
turned e id node h = ap₂ (λ s t. not s && t) (nat_eq_equiv.symm id e.0) (nat_list_eq_equiv.symm node.name e.1.name) ∙ h

-- a node doesn't clash with itself
other_name : (id : ℕ) (name : List ℕ) (node : Node) → clashes id name (id, node) ≡ false
other_name id name node = ap (λ t. not t && bytes_eq node.name name) (nat_eq_equiv.refl id)

-- a name that no other node has clashes with none
no_clash : (nodes : Nodes) (id : ℕ) (name : List ℕ) → name_taken nodes id name ≡ false → (n : ℕ) (node : Node)
    → get nodes n ≡ Some node → clashes id name (n, node) ≡ false
no_clash nodes id name free n node there =
    each_found (λ k v. clashes id name (k, v)
    ≡ false) nodes n node (each_fails nat_cmp_total exact_unsigned (clashes id name) nodes free) there

-- a name that no other node has, where another node is put
name_free : (nodes : Nodes) (e : ℕ × Node) (id : ℕ) (node : Node) → name_taken nodes e.0 e.1.name ≡ false
    → clashes e.0 e.1.name (id, node) ≡ false
    → name_taken (insert nodes id node) e.0 e.1.name ≡ false
name_free nodes e id node free other =
    none_pass nat_cmp_total exact_unsigned (clashes e.0 e.1.name) (insert nodes id node)
    (each_put nat_cmp_total exact_unsigned (λ k v. clashes e.0 e.1.name (k, v)
    ≡ false) nodes id node (each_fails nat_cmp_total exact_unsigned (clashes e.0 e.1.name) nodes free) other)

-- or where one is taken away
name_left : (nodes : Nodes) (id n : ℕ) (name : List ℕ) → name_taken nodes n name ≡ false
    → name_taken (remove nodes id) n name ≡ false
name_left nodes id n name free =
    none_pass nat_cmp_total exact_unsigned (clashes n name) (remove nodes id)
    (each_removed nat_cmp_total exact_unsigned (λ k v. clashes n name (k, v)
    ≡ false) nodes id (each_fails nat_cmp_total exact_unsigned (clashes n name) nodes free))

-- a node that an event is of stays known
known_still : (f g : ℕ → Bool) → ((n : ℕ) → f n ≡ true → g n ≡ true) → (o : Option ℕ) → option_map_or f o true ≡ true
    → option_map_or g o true ≡ true
known_still f g h None e = refl
known_still f g h (Some n) e = h n e

module _ (p : Content) (sound : IsSound p) (id : ℕ) (node : Node) (new : IsNodeOf p id node) where
  -- the project with the node
  abbrev with_node : Content
  with_node = record p { nodes = insert p.nodes id node }

  -- its other nodes
  old_node : (n : ℕ) (old : Node) → get p.nodes n ≡ Some old → IsNodeOf p n old → IsNodeOf with_node n old
  unfolding IsNodeOf
  old_node n old there is =
      let free = no_clash p.nodes id node.name new.3 n old there in
      (is.0, is.1, is.2, name_free p.nodes (n, old) id node is.3 (turned (n, old) id node free), is.4, is.5, is.6, is.7)

  -- its new node
  new_node : IsNodeOf with_node id node
  unfolding IsNodeOf
  new_node = (
    new.0,
    new.1,
    new.2,
    name_free p.nodes (id, node) id node new.3 (other_name id node.name node),
    new.4,
    new.5,
    new.6,
    new.7,
  )

  -- its events
  old_event : (number : ℕ) (e : TimedEvent) → IsEventOf p number e → IsEventOf with_node number e
  unfolding IsEventOf
  old_event number e is = (
    is.0,
    is.1,
    is.2,
    known_still _ _ (λ n. known_after_put nat_cmp_total p.nodes id n node)
        (node_of e.event) is.3,
  )

  -- a node of the project is put
  node_put : IsSound with_node
  node_put = record {
    bitrate = sound.bitrate;
    horizon = sound.horizon;
    manager = sound.manager;
    time_stamps = sound.time_stamps;
    counter = sound.counter;
    texts = sound.texts;
    nodes = each_put nat_cmp_total exact_unsigned (IsNodeOf with_node) p.nodes id node (each_weaker (IsNodeOf p)
        (IsNodeOf with_node) p.nodes old_node sound.nodes) new_node;
    count = sound.count;
    messages = messages_with_node p id sound.messages node;
    events = each_weaker (IsEventOf p)
        (IsEventOf with_node) p.events (λ number e there. old_event number e) sound.events;
  }

-- a node that is found is one of the project
found_node : (p : Content) → IsSound p → (id : ℕ) (node : Node) → get p.nodes id ≡ Some node → IsNodeOf p id node
found_node p sound id node found = each_found (IsNodeOf p) p.nodes id node sound.nodes found

-- its parameters
params_of : (p : Content) (id : ℕ) (node : Node) → IsNodeOf p id node → AreParams node.params
unfolding IsNodeOf
params_of p id node is = is.6

-- it with other parameters
other_params : (p : Content) (id : ℕ) (node : Node) (params : Params) → IsNodeOf p id node → AreParams params
    → IsNodeOf p id (record node { params = params })
unfolding IsNodeOf
other_params p id node params is are = (is.0, is.1, is.2, is.3, is.4, is.5, are, is.7)

-- it, mandatory or optional, where the version knows mandatory nodes
other_need : (p : Content) (id : ℕ) (node : Node) (mandatory : Bool) → IsNodeOf p id node → is_one p.version ≡ false
    → IsNodeOf p id (with_need mandatory node)
unfolding IsNodeOf
other_need p id node mandatory is two = (is.0, is.1, is.2, is.3, is.4, is.5, is.6, rw two refl)

-- whether it is mandatory fits the version
need_fits : (p : Content) (id : ℕ) (node : Node) → IsNodeOf p id node → (is_one p.version && node.mandatory) ≡ false
unfolding IsNodeOf
need_fits p id node is = is.7

-- an optional node fits each version
optional_fits : (t : Bool) → (t && false) ≡ false
optional_fits true = refl
optional_fits false = refl

-- a node, new or with another name and EDS
renamed_node : (p : Content) (id : ℕ) (name eds : List ℕ) → IsSound p → IsEdit (edit.Node id name eds)
    → contains_key p.texts eds ≡ true
    → (not (is_three p.version) && (id == p.manager.id) || name_taken p.nodes id name) ≡ false
    → (found : Option Node) → get p.nodes id ≡ found → IsNodeOf p id (node_after_put name eds found)
unfolding IsEdit IsNodeOf
renamed_node p id name eds sound h there free None none =
    let parts = or_parts (not (is_three p.version) && (id == p.manager.id)) (name_taken p.nodes id name) free in
    (h.0, parts.0, h.1, parts.1, h.2, there, no_params, optional_fits (is_one p.version))
renamed_node p id name eds sound h there free (Some node) found =
    let parts = or_parts (not (is_three p.version) && (id == p.manager.id)) (name_taken p.nodes id name) free in
    let old : IsNodeOf p id node = found_node p sound id node found in
    (h.0, parts.0, h.1, parts.1, h.2, there, params_of p id node old, need_fits p id node old)

-- nodes that fit a version as a whole fit it one by one
still_fits : (nodes : Nodes) (version : ScriptVersion) → (is_one version && has_mandatory nodes) ≡ false
    → (id : ℕ) (node : Node) → get nodes id ≡ Some node → (is_one version && node.mandatory) ≡ false
still_fits nodes One none id node there =
    each_found (λ k v. v.mandatory ≡ false) nodes id node
    (each_fails nat_cmp_total exact_unsigned (λ e. e.1.mandatory) nodes none) there
still_fits nodes Two none id node there = refl
still_fits nodes Three none id node there = refl

-- what fits a version only if it is the third, by parts
both_fit : (third a b : Bool) → (not third && (a || b)) ≡ false
    → ((not third && a) ≡ false) × ((not third && b) ≡ false)
both_fit true a b h = (refl, refl)
both_fit false a b h = or_parts a b h

-- time stamps in another version
stamps_in_version : (p : Content) (version : ScriptVersion) (stamps : Option TimeStamps)
    → (not (is_three version) && is_some stamps) ≡ false → IfSome stamps (AreTimeStampsOf p)
    → IfSome stamps (AreTimeStampsOf (record p { version = version }))
stamps_in_version p version None fits are = tt
stamps_in_version p One (Some stamps) fits are = cc
stamps_in_version p Two (Some stamps) fits are = cc
stamps_in_version p Three (Some stamps) fits are = (refl, are.1)

-- time stamps that are new, where the version knows them
stamps_fit : (p : Content) (stamps : Option TimeStamps) → is_three p.version ≡ true → IfSome stamps AreTimeStamps
    → IfSome stamps (AreTimeStampsOf p)
stamps_fit p None three are = tt
stamps_fit p (Some stamps) three are = (three, are)

-- ---- one edit

module _ (p : Content) (sound : IsSound p) where
  -- another version, which fits the nodes, the messages, the time stamps and the controller
  version_keeps : (version : ScriptVersion) → (is_one version && has_mandatory p.nodes) ≡ false
      → (not (is_three version) && (have_receives p.messages || is_some p.time_stamps || has_controller p)) ≡ false
      → IsSound (record p { version = version })
  unfolding IsNodeOf IsMessageOf IsEventOf
  version_keeps version h fits = record {
    bitrate = sound.bitrate;
    horizon = sound.horizon;
    manager = sound.manager;
    time_stamps = stamps_in_version p version p.time_stamps parts.1 sound.time_stamps;
    counter = sound.counter;
    texts = sound.texts;
    nodes = each_weaker (IsNodeOf p) (IsNodeOf (record p { version = version })) p.nodes node_of_it sound.nodes;
    count = sound.count;
    messages = messages_in_version p version parts.0 sound.messages;
    events = sound.events;
  }
    where
      apart : ((not (is_three version) && (have_receives p.messages || is_some p.time_stamps)) ≡ false)
          × ((not (is_three version) && has_controller p) ≡ false)
      apart = both_fit (is_three version) (have_receives p.messages || is_some p.time_stamps) (has_controller p) fits

      parts : ((not (is_three version) && have_receives p.messages) ≡ false)
          × ((not (is_three version) && is_some p.time_stamps) ≡ false)
      parts = both_fit (is_three version) (have_receives p.messages) (is_some p.time_stamps) apart.0

      node_of_it : (id : ℕ) (node : Node) → get p.nodes id ≡ Some node → IsNodeOf p id node
          → IsNodeOf (record p { version = version }) id node
      node_of_it id node there is = (
        is.0,
        apart_from_manager p.nodes (is_three version) p.manager.id id node apart.1 there,
        is.2,
        is.3,
        is.4,
        is.5,
        is.6,
        still_fits p.nodes version h id node there,
      )

  -- another bit rate
  bitrate_keeps : (rate : ℕ) → is_bit_rate rate ≡ true → IsSound (record p { bitrate = rate })
  unfolding IsNodeOf IsMessageOf IsEventOf
  bitrate_keeps rate h = record {
    bitrate = h;
    horizon = sound.horizon;
    manager = sound.manager;
    time_stamps = sound.time_stamps;
    counter = sound.counter;
    texts = sound.texts;
    nodes = sound.nodes;
    count = sound.count;
    messages = sound.messages;
    events = sound.events;
  }

  -- another horizon
  horizon_keeps : (time : ℕ) → is_time time ≡ true → IsSound (record p { horizon = time })
  unfolding IsNodeOf IsMessageOf IsEventOf
  horizon_keeps time h = record {
    bitrate = sound.bitrate;
    horizon = h;
    manager = sound.manager;
    time_stamps = sound.time_stamps;
    counter = sound.counter;
    texts = sound.texts;
    nodes = sound.nodes;
    count = sound.count;
    messages = sound.messages;
    events = sound.events;
  }

  -- another manager
  manager_keeps : (m : ManagerSettings) → IsManager m → (not (is_three p.version) && contains_key p.nodes m.id) ≡ false
      → IsSound (record p { manager = m })
  unfolding IsNodeOf IsMessageOf IsEventOf
  manager_keeps m h free = record {
    bitrate = sound.bitrate;
    horizon = sound.horizon;
    manager = h;
    time_stamps = sound.time_stamps;
    counter = sound.counter;
    texts = sound.texts;
    nodes = each_weaker (IsNodeOf p) (IsNodeOf (record p { manager = m })) p.nodes node_of_it sound.nodes;
    count = sound.count;
    messages = sound.messages;
    events = sound.events;
  }
    where
      node_of_it : (id : ℕ) (node : Node) → get p.nodes id ≡ Some node → IsNodeOf p id node
          → IsNodeOf (record p { manager = m }) id node
      node_of_it id node there is = (
        is.0,
        apart_from_manager p.nodes (is_three p.version) m.id id node free there,
        is.2,
        is.3,
        is.4,
        is.5,
        is.6,
        is.7,
      )

  -- other time stamps, or none
  stamps_keep : (stamps : Option TimeStamps) → IfSome stamps AreTimeStamps → is_three p.version ≡ true
      → IsSound (record p { time_stamps = stamps })
  unfolding IsNodeOf IsMessageOf IsEventOf
  stamps_keep stamps are three = record {
    bitrate = sound.bitrate;
    horizon = sound.horizon;
    manager = sound.manager;
    time_stamps = stamps_fit p stamps three are;
    counter = sound.counter;
    texts = sound.texts;
    nodes = sound.nodes;
    count = sound.count;
    messages = sound.messages;
    events = sound.events;
  }

  -- another last number of the SYNC counter
  counter_keeps : (n : ℕ) → is_sync_counter n ≡ true → IsSound (record p { sync_counter = n })
  unfolding IsNodeOf IsMessageOf IsEventOf
  counter_keeps n h = record {
    bitrate = sound.bitrate;
    horizon = sound.horizon;
    manager = sound.manager;
    time_stamps = sound.time_stamps;
    counter = h;
    texts = sound.texts;
    nodes = sound.nodes;
    count = sound.count;
    messages = sound.messages;
    events = sound.events;
  }

  -- the project with other texts
  abbrev with_texts : Texts → Content
  with_texts texts = record p { texts = texts }

  -- other texts, among which are those of all nodes
  texts_keep : (texts : Texts) → AreTexts texts
      → ((id : ℕ) (node : Node) → get p.nodes id ≡ Some node → contains_key p.texts node.eds ≡ true
      → contains_key texts node.eds ≡ true) → IsSound (with_texts texts)
  unfolding IsNodeOf IsMessageOf IsEventOf
  texts_keep texts are there = record {
    bitrate = sound.bitrate;
    horizon = sound.horizon;
    manager = sound.manager;
    time_stamps = sound.time_stamps;
    counter = sound.counter;
    texts = are;
    nodes = each_weaker (IsNodeOf p) (IsNodeOf (with_texts texts)) p.nodes node_of_it sound.nodes;
    count = sound.count;
    messages = sound.messages;
    events = sound.events;
  }
    where
      node_of_it : (id : ℕ) (node : Node) → get p.nodes id ≡ Some node → IsNodeOf p id node
          → IsNodeOf (with_texts texts) id node
      node_of_it id node found is = (is.0, is.1, is.2, is.3, is.4, there id node found is.5, is.6, is.7)

  -- the text of an EDS
  eds_keeps : (name text : List ℕ) → IsEds name text → has_no_room p.texts name ≡ false
      → IsSound (with_texts (insert p.texts name text))
  eds_keeps name text eds room = texts_keep (insert p.texts name text)
      (texts_put p.texts name text sound.texts eds room)
      (λ id node found. known_after_put nat_list_cmp_total p.texts name node.eds text)

  -- an EDS that no node uses goes
  drop_eds_keeps : (name : List ℕ) → is_used p.nodes name ≡ false → IsSound (with_texts (remove p.texts name))
  drop_eds_keeps name unused = texts_keep (remove p.texts name) (texts_dropped p.texts name sound.texts) left
    where
      left : (id : ℕ) (node : Node) → get p.nodes id ≡ Some node → contains_key p.texts node.eds ≡ true
          → contains_key (remove p.texts name) node.eds ≡ true
      left id node found there =
          let other : bytes_eq node.eds name ≡ false =
          each_found (λ k v. bytes_eq v.eds name ≡ false) p.nodes id node
          (each_fails nat_cmp_total exact_unsigned (λ e. bytes_eq e.1.eds name) p.nodes unused) found in
          rw (still_named p.texts name node.eds other) there

  -- a node, new or with another name and EDS
  node_keeps : (id : ℕ) (name eds : List ℕ) → IsEdit (edit.Node id name eds) → contains_key p.texts eds ≡ true
      → (not (is_three p.version) && (id == p.manager.id) || name_taken p.nodes id name) ≡ false
      → IsSound (record p { nodes = put_node p.nodes id name eds })
  node_keeps id name eds h there free = node_put p sound id (node_after_put name eds (get p.nodes id))
      (renamed_node p id name eds sound h there free (get p.nodes id) refl)

  -- a known node, mandatory or optional
  need_keeps : (id : ℕ) (mandatory : Bool) → is_one p.version ≡ false → (found : Option Node) → get p.nodes id ≡ found
      → is_some found ≡ true
      → IsSound (record p { nodes = option_map_or (λ n. insert p.nodes id (with_need mandatory n)) found p.nodes })
  need_keeps id mandatory two None none there = absurd (true≢false (sym there))
  need_keeps id mandatory two (Some node) found there = node_put p sound id (with_need mandatory node)
      (other_need p id node mandatory (found_node p sound id node found) two)

  -- a node that no message concerns and no event is of goes
  drop_node_keeps : (id : ℕ) → is_of_messages id p.messages ≡ false → are_received id p.messages ≡ false
      → is_named p.events id ≡ false
      → IsSound (record p { nodes = remove p.nodes id })
  unfolding IsNodeOf IsMessageOf IsEventOf
  drop_node_keeps id apart unreceived unnamed = record {
    bitrate = sound.bitrate;
    horizon = sound.horizon;
    manager = sound.manager;
    time_stamps = sound.time_stamps;
    counter = sound.counter;
    texts = sound.texts;
    nodes = each_removed nat_cmp_total exact_unsigned (IsNodeOf without) p.nodes id (each_weaker (IsNodeOf p)
        (IsNodeOf without) p.nodes (λ n node there. node_without n node) sound.nodes);
    count = sound.count;
    messages = messages_without_node p id sound.messages apart unreceived;
    events = each_weaker (IsEventOf p) (IsEventOf without) p.events event_without sound.events;
  }
    where
      without : Content
      without = record p { nodes = remove p.nodes id }

      node_without : (n : ℕ) (node : Node) → IsNodeOf p n node → IsNodeOf without n node
      node_without n node is = (is.0, is.1, is.2, name_left p.nodes id n node.name is.3, is.4, is.5, is.6, is.7)

      still_known : (o : Option ℕ) → option_map_or (λ n. n == id) o false ≡ false
          → option_map_or (contains_key p.nodes) o true ≡ true
          → option_map_or (contains_key without.nodes) o true ≡ true
      still_known None other known = refl
      still_known (Some n) other known = rw (still_there p.nodes id n other) known

      event_without : (number : ℕ) (e : TimedEvent) → get p.events number ≡ Some e → IsEventOf p number e
          → IsEventOf without number e
      event_without number e there is =
          let other : is_of id e.event ≡ false = each_found (λ k v. is_of id v.event
          ≡ false) p.events number e (each_fails nat_cmp_total exact_unsigned (λ x. is_of id x.1.event) p.events
          unnamed) there in
          (is.0, is.1, is.2, still_known (node_of e.event) other is.3)

  -- an event of a known node
  event_keeps : (number : ℕ) (e : TimedEvent) → IsEdit (edit.Event number e) → is_of_known p.nodes e.event ≡ true
      → IsSound (record p { events = insert p.events number e })
  unfolding IsEdit IsNodeOf IsMessageOf IsEventOf
  event_keeps number e h known = record {
    bitrate = sound.bitrate;
    horizon = sound.horizon;
    manager = sound.manager;
    time_stamps = sound.time_stamps;
    counter = sound.counter;
    texts = sound.texts;
    nodes = sound.nodes;
    count = sound.count;
    messages = sound.messages;
    events = each_put nat_cmp_total exact_unsigned (IsEventOf p) p.events number e sound.events (h.0, h.1, h.2, known);
  }

  -- an event goes
  drop_event_keeps : (number : ℕ) → IsSound (record p { events = remove p.events number })
  unfolding IsNodeOf IsMessageOf IsEventOf
  drop_event_keeps number = record {
    bitrate = sound.bitrate;
    horizon = sound.horizon;
    manager = sound.manager;
    time_stamps = sound.time_stamps;
    counter = sound.counter;
    texts = sound.texts;
    nodes = sound.nodes;
    count = sound.count;
    messages = sound.messages;
    events = each_removed nat_cmp_total exact_unsigned (IsEventOf p) p.events number sound.events;
  }

  -- other messages of the project
  messages_keep : (messages : Named) → len messages ≤ 1024 → Each (IsMessageOf p) messages
      → IsSound (record p { messages = messages })
  unfolding IsNodeOf IsMessageOf IsEventOf
  messages_keep messages few each = record {
    bitrate = sound.bitrate;
    horizon = sound.horizon;
    manager = sound.manager;
    time_stamps = sound.time_stamps;
    counter = sound.counter;
    texts = sound.texts;
    nodes = sound.nodes;
    count = few;
    messages = each;
    events = sound.events;
  }

  -- a message, new or sent in another way
  message_keeps : (name : List ℕ) (m : Message) → IsEdit (edit.Message name m) → contains_key p.nodes m.node ≡ true
      → is_full_of p.messages name ≡ false → IsSound (record p { messages = with_message p.messages name m })
  message_keeps name m h there free =
      messages_keep (with_message p.messages name m)
      (room_for nat_list_cmp_total 1024 p.messages name (linked_to (get p.messages name) m) sound.count free)
      (message_sent p name m h there sound.messages)

  -- a message goes
  drop_message_keeps : (name : List ℕ) → IsSound (record p { messages = remove p.messages name })
  drop_message_keeps name = messages_keep (remove p.messages name)
      (fewer nat_list_cmp_total p.messages name 1024 sound.count)
      (each_removed nat_list_cmp_total exact_bytes (IsMessageOf p) p.messages name sound.messages)

  -- a message is changed
  changed_keeps : (name : List ℕ) (change : Linked → Linked)
      → ((l : Linked) → IsMessageOf p name l → IsMessageOf p name (change l))
      → IsSound (record p { messages = with_changed change p.messages name })
  changed_keeps name change keeps = messages_keep (with_changed change p.messages name)
      (rw (as_many p name change p.messages) sound.count) (messages_changed p name change keeps sound.messages)

  -- it gets a SYNC start value
  start_keeps : (name : List ℕ) (n : ℕ) → IsEdit (edit.Start name n)
      → IsSound (record p { messages = with_changed (with_start n) p.messages name })
  unfolding IsEdit
  start_keeps name n h = changed_keeps name (with_start n) (start_kept p name n h.1)

  -- it carries an entry of its sender
  source_keeps : (name : List ℕ) (position : ℕ) (place : ℕ × ℕ) → IsEdit (edit.Source name position place.0 place.1)
      → IsSound (record p { messages = with_changed (with_source position place) p.messages name })
  unfolding IsEdit
  source_keeps name position place h = changed_keeps name (with_source position place)
      (source_kept p name position place h.1 h.2)

  -- an entry of a node that is there takes a part of it
  sink_keeps : (name : List ℕ) (position node : ℕ) (place : ℕ × ℕ)
      → IsEdit (edit.Sink name position node place.0 place.1) → contains_key p.nodes node ≡ true
      → IsSound (record p { messages = with_changed (with_sink position node place) p.messages name })
  unfolding IsEdit
  sink_keeps name position node place h there = changed_keeps name (with_sink position node place)
      (sink_kept p name position node place h.1 h.2 h.3 there)

  -- it gets a receive of a node that is there, in a version that knows receives
  receive_keeps : (name : List ℕ) (node rpdo event : ℕ) → IsEdit (edit.Receive name node rpdo event)
      → is_three p.version ≡ true → contains_key p.nodes node ≡ true
      → IsSound (record p { messages = with_changed (with_receive node (receive_by rpdo event)) p.messages name })
  unfolding IsEdit
  receive_keeps name node rpdo event h three there = changed_keeps name (with_receive node (receive_by rpdo event))
      (receive_kept p name node (receive_by rpdo event) (h.1, h.2, h.3) (three, there))

  -- a node of the project gets other parameters
  params_keep : (id : ℕ) (node : Node) (params : Params) → get p.nodes id ≡ Some node → AreParams params
      → IsSound (record p { nodes = insert p.nodes id (record node { params = params }) })
  params_keep id node params found are = node_put p sound id (record node { params = params })
      (other_params p id node params (found_node p sound id node found) are)

-- ---- what an edit that is taken passed

-- one test
passed : (t : Bool) (fault : EditFault) (new q : Content) → unless ((t, fault) ∷ []) new ≡ Ok q
    → (t ≡ false) × (new ≡ q)
passed true fault new q h = cc
passed false fault new q h = (refl, cc)

-- two tests
passed_both : (t u : Bool) (one other : EditFault) (new q : Content) → unless ((t, one) ∷ (u, other) ∷ []) new ≡ Ok q
    → (t ≡ false) × (u ≡ false) × (new ≡ q)
passed_both true u one other new q h = cc
passed_both false true one other new q h = cc
passed_both false false one other new q h = (refl, refl, cc)

-- no test
the_same : (p q : Content) → unless [] p ≡ Ok q → p ≡ q
the_same p q h = cc

-- one test of an edit of the nodes
nodes_passed : (p : Content) (t : Bool) (fault : EditFault) (nodes : Nodes) (q : Content)
    → with_nodes p (unless ((t, fault) ∷ []) nodes) ≡ Ok q → (t ≡ false) × (record p { nodes = nodes } ≡ q)
nodes_passed p true fault nodes q h = cc
nodes_passed p false fault nodes q h = (refl, cc)

module _ (p q : Content) (sound : IsSound p) (id : ℕ) (place : ℕ × ℕ) where
  -- a node gets a parameter
  param_keeps : (text : List ℕ) (found : Option Node) → get p.nodes id ≡ found → IsSetting place.0 place.1 text
      → with_nodes p (with_param p.nodes id place text found) ≡ Ok q → IsSound q
  param_keeps text None none setting taken = cc
  param_keeps text (Some node) found setting taken =
      let h = nodes_passed p (is_full_for node.params place) _ _ q taken in
      let old : AreParams node.params = params_of p id node (found_node p sound id node found) in
      subst IsSound h.1 (params_keep p sound id node (insert node.params place text) found
      (params_put node.params place text old setting h.0))

  -- a node loses a parameter
  unparam_keeps : (found : Option Node) → get p.nodes id ≡ found
      → with_nodes p (without_param p.nodes id place found) ≡ Ok q → IsSound q
  unparam_keeps None none taken = cc
  unparam_keeps (Some node) found taken =
      let h = nodes_passed p (not (contains_key node.params place)) _ _ q taken in
      let old : AreParams node.params = params_of p id node (found_node p sound id node found) in
      subst IsSound h.1 (params_keep p sound id node (remove node.params place) found
      (params_dropped node.params place old))

-- ---- the laws

-- the first project keeps to what every project does
pub first_sound : IsSound first
unfolding IsManager
first_sound = record {
  bitrate = refl;
  horizon = refl;
  manager = (refl, refl, refl, refl);
  time_stamps = tt;
  counter = refl;
  texts = no_texts;
  nodes = each_empty (IsNodeOf first) empty refl;
  count = rw (len-empty name_cmp Linked) (omega arith);
  messages = each_empty (IsMessageOf first) empty refl;
  events = each_empty (IsEventOf first) empty refl;
}

-- an edit that is taken leaves a project that keeps to it
pub edits_keep_sound : (p q : Content) (edit : Edit) → IsSound p → IsEdit edit → accept p edit ≡ Ok q → IsSound q
unfolding accept IsEdit
edits_keep_sound p q (edit.Version version) sound h taken =
    let e = passed _ _ _ q taken in
    let fits = or_parts (is_one version && has_mandatory p.nodes)
    (not (is_three version) && (have_receives p.messages || is_some p.time_stamps || has_controller p)) e.0 in
    subst IsSound e.1 (version_keeps p sound version fits.0 fits.1)
edits_keep_sound p q (edit.Bitrate rate) sound h taken = subst IsSound (the_same _ q taken)
    (bitrate_keeps p sound rate h)
edits_keep_sound p q (edit.Horizon time) sound h taken = subst IsSound (the_same _ q taken)
    (horizon_keeps p sound time h)
edits_keep_sound p q (edit.Manager m) sound h taken = let e = passed _ _ _ q taken
    in subst IsSound e.1 (manager_keeps p sound m h e.0)
edits_keep_sound p q (edit.TimeStamps stamps) sound h taken = let e = passed _ _ _ q taken
    in subst IsSound e.1 (stamps_keep p sound stamps h (not-false _ e.0))
edits_keep_sound p q (edit.SyncCounter n) sound h taken = subst IsSound (the_same _ q taken)
    (counter_keeps p sound n h)
edits_keep_sound p q (edit.Eds name text) sound h taken = let e = passed _ _ _ q taken
    in subst IsSound e.1 (eds_keeps p sound name text h e.0)
edits_keep_sound p q (edit.DropEds name) sound h taken = let e = passed_both _ _ _ _ _ q taken
    in subst IsSound e.2 (drop_eds_keeps p sound name e.1)
edits_keep_sound p q (edit.Node id name eds) sound h taken = let e = passed_both _ _ _ _ _ q taken
    in subst IsSound e.2 (node_keeps p sound id name eds h (not-false _ e.0) e.1)
edits_keep_sound p q (edit.Need id mandatory) sound h taken = let e = passed_both _ _ _ _ _ q taken
    in subst IsSound e.2 (need_keeps p sound id mandatory e.0 (get p.nodes id) refl (not-false _ e.1))
edits_keep_sound p q (edit.DropNode id) sound h taken =
    let e = passed_both _ _ _ _ _ q taken in
    let apart = or_parts (is_of_messages id p.messages || are_received id p.messages) (is_named p.events id) e.1 in
    let unnamed = or_parts (is_of_messages id p.messages) (are_received id p.messages) apart.0 in
    subst IsSound e.2 (drop_node_keeps p sound id unnamed.0 unnamed.1 apart.1)
edits_keep_sound p q (edit.Param id index sub text) sound h taken =
    param_keeps p q sound id (index, sub) text (get p.nodes id) refl h.1 taken
edits_keep_sound p q (edit.Unparam id index sub) sound h taken = unparam_keeps p q sound id (index, sub)
    (get p.nodes id) refl taken
edits_keep_sound p q (edit.Message name m) sound h taken = let e = passed_both _ _ _ _ _ q taken
    in subst IsSound e.2 (message_keeps p sound name m h (not-false _ e.0) e.1)
edits_keep_sound p q (edit.Start name n) sound h taken = let e = passed _ _ _ q taken
    in subst IsSound e.1 (start_keeps p sound name n h)
edits_keep_sound p q (edit.DropMessage name) sound h taken = let e = passed _ _ _ q taken
    in subst IsSound e.1 (drop_message_keeps p sound name)
edits_keep_sound p q (edit.Source name position index sub) sound h taken = let e = passed _ _ _ q taken
    in subst IsSound e.1 (source_keeps p sound name position (index, sub) h)
edits_keep_sound p q (edit.Unsource name position) sound h taken = let e = passed _ _ _ q taken
    in subst IsSound e.1 (changed_keeps p sound name (without_source position) (unsource_kept p name position))
edits_keep_sound p q (edit.Sink name position node index sub) sound h taken =
    let e = passed _ _ _ q taken in
    let known = or_parts (not (contains_key p.messages name)) (not (contains_key p.nodes node)) e.0 in
    subst IsSound e.1 (sink_keeps p sound name position node (index, sub) h (not-false _ known.1))
edits_keep_sound p q (edit.Unsink name position node) sound h taken = let e = passed _ _ _ q taken
    in subst IsSound e.1 (changed_keeps p sound name (without_sink position node) (unsink_kept p name position node))
edits_keep_sound p q (edit.Receive name node rpdo event) sound h taken =
    let e = passed_both _ _ _ _ _ q taken in
    let known = or_parts (not (contains_key p.messages name)) (not (contains_key p.nodes node)) e.1 in
    subst IsSound e.2 (receive_keeps p sound name node rpdo event h (not-false _ e.0) (not-false _ known.1))
edits_keep_sound p q (edit.Unreceive name node) sound h taken =
    let e = passed_both (not (is_three p.version)) (not (has_receive p.messages name node)) Range Unknown _ q taken in
    subst IsSound e.2 (changed_keeps p sound name (without_receive node) (unreceive_kept p name node))
edits_keep_sound p q (edit.Event number e) sound h taken = let t = passed _ _ _ q taken
    in subst IsSound t.1 (event_keeps p sound number e h (not-false _ t.0))
edits_keep_sound p q (edit.DropEvent number) sound h taken = let e = passed _ _ _ q taken
    in subst IsSound e.1 (drop_event_keeps p sound number)
