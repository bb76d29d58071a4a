-- The edits of a project's script make the project again.
use Rattle.std.proofs.Common.{◌≡◌, ℕ, ◌+◌, ◌≤◌, sym, ◌∙◌, List, [], ◌∷◌, ◌++◌, length, map, Bool, true, false, cond, not}
use Rattle.std.proofs.Common.{◌&&◌, ◌||◌, ◌==◌, T, Option, Some, None, Ok, IfSome, All, option_map, is_some, refl, ap}
use Rattle.std.proofs.Common.{arith, if◌then◌else◌}
use Rattle.std.proofs.lemmas.Bool.{and_right, eqb-true, or_from}
use Rattle.std.proofs.lemmas.Cmp.{nat_cmp_total, nat_list_cmp_total}
use Rattle.std.proofs.lemmas.List.Elements.{All-head, All-tail}
use Rattle.std.proofs.lemmas.Map.Lookups.{exact_unsigned, exact_bytes}
use Rattle.std.specs.List.{flat_map}
use Rattle.std.specs.Option.{option_map_or, option_or}
use Rattle.std.specs.Ordering.{nat_cmp, eq_by_cmp}
use Rattle.std.specs.Str.{bytes_eq}
use Rattle.std.specs.FinMap.{contains_key, empty, entries, entries_sorted, find, get, get-empty, get-entries, insert, is_sorted, len}
use Rattle.std.specs.FinMap.{same_map}
use Rattle.std.specs.FinMap.Entries.{below_all}
use Rattle.co_scenario.specs.declared.timed_event.TimedEvent.{TimedEvent}
use Rattle.co_scenario.specs.Scenario.{Events}
use Rattle.base.proofs.TableLemmas.{put_there, put_twice}
use Rattle.project_edits.specs.declared.fault.EditFault.TheVariants.{InUse, Range, Unknown, Taken, Limit}
use Rattle.project_edits.specs.declared.script_version.ScriptVersion.{ScriptVersion}
use Rattle.project_edits.specs.declared.script_version.ScriptVersion.TheVariants.{One, Two, Three}
use Rattle.project_edits.specs.declared.time_stamps.TimeStamps.{TimeStamps}
use Rattle.project_edits.specs.declared.edit.Edit.{Edit}
use Rattle.project_edits.specs.declared.edit.Edit.TheVariants as edit
use Rattle.project_edits.specs.Accepts.{unless}
use Rattle.project_messages.specs.Messages.{has_receives, have_receives}
use Rattle.project_edits.specs.Versions.{is_one, is_three}
use Rattle.co_dict.proofs.PlaceLemmas.{places_exact, places_total}
use Rattle.node_parameters.specs.Params.{Texts as Params, is_full_for}
use Rattle.co_project.specs.declared.node.Node.{Node}
use Rattle.co_project.specs.Tables.{Texts, Nodes, name_taken, has_no_room, node_after_put, with_need, with_param}
use Rattle.co_project.specs.Project.{Content, first, accept, accept_all, has_controller, with_nodes}
use Rattle.project_script.specs.Script.{counter_edits, edits, event_edit, message_edits, need_edits, node_edits}
use Rattle.project_script.specs.Script.{param_edit, param_edits, settings, stamps_edits, text_edit, version_edits}
use Rattle.base.specs.Tables.{Each}
use Rattle.co_project.specs.Sound.{AreTexts, AreParams, AreTimeStampsOf, IsNodeOf, IsMessageOf, IsEventOf, IsSound}
use Rattle.base.proofs.EachLemmas.{all_entries, both, each_empty, each_fails, each_found, each_put, each_there}
use Rattle.base.proofs.EachLemmas.{each_weaker, first_part, get-put_all, made_again, none_pass, one_more, put_all}
use Rattle.base.proofs.EachLemmas.{second_part}
use Rattle.co_project.proofs.NodeLemmas.{same_put}
use Rattle.project_script.proofs.EditsInTurn.{in_turn, one_then, room, whole_small}
use Rattle.project_script.proofs.MessagesAgain.{messages_come_again}
use Rattle.project_script.proofs.ToCome.{AreToCome, first_to_come, others_to_come}

-- ---- texts

-- one text more
text_taken : (p : Content) (texts : Texts) (e : List ℕ × List ℕ) → has_no_room texts e.0 ≡ false
    → accept (record p { texts = texts }) (text_edit e) ≡ Ok (record p { texts = insert texts e.0 e.1 })
unfolding accept
text_taken p texts e free = ap (λ t. unless ((t, Limit) ∷ []) (record p { texts = insert texts e.0 e.1 })) free

-- the texts that are still to come
texts_again : (p : Content) (texts : Texts) (back : List (List ℕ × List ℕ)) → len texts + length back ≤ 64
    → accept_all (Ok (record p { texts = texts })) (map text_edit back) ≡ Ok (record p { texts = put_all texts back })
unfolding accept_all put_all
texts_again p texts [] small = refl
texts_again p texts (e ∷ back) small =
    one_then (record p { texts = texts }) (text_edit e) (map text_edit back) (record p { texts = insert texts e.0 e.1 })
    (text_taken p texts e (room 64 (len texts) (length back) _ small))
    (texts_again p (insert texts e.0 e.1) back (let more = one_more nat_list_cmp_total texts e.0 e.1 in omega arith))

-- ---- nodes

-- a node without its parameters
abbrev bare : Node → Node
bare node = record node { params = empty }

-- a node that is mandatory where it is to be
abbrev needed : Bool → Node → Node
needed mandatory node = if mandatory then with_need true node else node

-- a new node is what it is to be
new_needed : (name eds : List ℕ) (mandatory : Bool)
    → needed mandatory (record { name = name; eds = eds; mandatory = false; params = empty })
    ≡ record { name = name; eds = eds; mandatory = mandatory; params = empty }
new_needed name eds true = refl
new_needed name eds false = refl

-- and a node that is so already
again_needed : (name eds : List ℕ) (mandatory : Bool)
    → needed mandatory (record { name = name; eds = eds; mandatory = mandatory; params = empty })
    ≡ record { name = name; eds = eds; mandatory = mandatory; params = empty }
again_needed name eds true = refl
again_needed name eds false = refl

-- the node that is found, without its parameters, with the name and EDS of another
abbrev renamed : Node → Option Node → Node
renamed node o = option_map_or (λ n. record (bare n) { name = node.name; eds = node.eds }) o (bare node)

-- a test that fails beside another that holds
only_left : (t : Bool) → (t && true) ≡ false → t ≡ false
only_left true h = h
only_left false h = refl

abbrev bare_entry : ℕ × Node → ℕ × Node
bare_entry e = (e.0, bare e.1)

-- the project with these nodes, no messages and no events
abbrev with_nodes_alone : Content → Nodes → Content
with_nodes_alone p nodes = record p { nodes = nodes; messages = empty; events = empty }

module _ (p : Content) where
  -- nodes of the project without their parameters
  abbrev IsBare : ℕ → Node → Type 0
  IsBare id node = (whole : Node) × ((get p.nodes id ≡ Some whole) × (node ≡ bare whole))

  -- their names are free as in the project
  name_free : (nodes : Nodes) → Each IsBare nodes → (id : ℕ) (name : List ℕ) → name_taken p.nodes id name ≡ false
      → name_taken nodes id name ≡ false
  name_free nodes are id name free =
      none_pass nat_cmp_total exact_unsigned clashes nodes (each_weaker IsBare (λ k v. clashes (k, v)
      ≡ false) nodes other are)
    where
      clashes : ℕ × Node → Bool
      clashes e = not (e.0 == id) && bytes_eq e.1.name name

      other : (k : ℕ) (v : Node) → get nodes k ≡ Some v → IsBare k v → clashes (k, v) ≡ false
      other k v there is =
          ap (λ (node : Node). clashes (k, node)) is.1.1
          ∙ each_found (λ n node. clashes (n, node)
          ≡ false) p.nodes k is.0 (each_fails nat_cmp_total exact_unsigned clashes p.nodes free) is.1.0

  -- a node that is put, and then made mandatory where it is to be, is without parameters
  still_bare : (id : ℕ) (node : Node) → get p.nodes id ≡ Some node → (known : Option Node) → IfSome known (IsBare id)
      → needed node.mandatory (node_after_put node.name node.eds known) ≡ bare node
  still_bare id node there None is = new_needed node.name node.eds node.mandatory
  still_bare id node there (Some known) is =
      ap (λ (n : Node). needed node.mandatory (record n { name = node.name; eds = node.eds })) is.1.1
      ∙ ap (λ (o : Option Node). needed node.mandatory (renamed node o)) (sym is.1.0 ∙ there)
      ∙ again_needed node.name node.eds node.mandatory

  -- one node more
  node_taken : (nodes : Nodes) (e : ℕ × Node) → Each IsBare nodes → get p.nodes e.0 ≡ Some e.1 → IsNodeOf p e.0 e.1
      → accept (with_nodes_alone p nodes) (edit.Node e.0 e.1.name e.1.eds)
      ≡ Ok (with_nodes_alone p (insert nodes e.0 (node_after_put e.1.name e.1.eds (get nodes e.0))))
  unfolding accept IsNodeOf
  node_taken nodes e are there is =
      let put : Node → Content = λ node. with_nodes_alone p (insert nodes e.0 node) in
      let known = get nodes e.0 in
      ap (λ t. unless ((not t, Unknown)
      ∷ (not (is_three p.version) && (e.0 == p.manager.id) || name_taken nodes e.0 e.1.name, Taken) ∷ [])
      (put (node_after_put e.1.name e.1.eds known))) is.5
      ∙ ap (λ t. unless ((t, Taken) ∷ []) (put (node_after_put e.1.name e.1.eds known)))
      (or_from _ _ is.1 (name_free nodes are e.0 e.1.name is.3))

  -- it is made mandatory, in a version that knows mandatory nodes
  need_taken : (nodes : Nodes) (id : ℕ) (node : Node) → is_one p.version ≡ false
      → accept (with_nodes_alone p (insert nodes id node)) (edit.Need id true)
      ≡ Ok (with_nodes_alone p (insert nodes id (with_need true node)))
  unfolding accept
  need_taken nodes id node two =
      let now : Nodes = insert nodes id node in
      let put : Option Node → Nodes =
      λ o. option_map_or (λ n. insert now id (with_need true n)) o now in
      let there = put_there nat_cmp_total exact_unsigned nodes id node in
      ap (λ t. unless ((t, Range) ∷ (not (is_some (get now id)), Unknown) ∷ [])
      (with_nodes_alone p (put (get now id)))) two
      ∙ ap (λ o. unless ((not (is_some o), Unknown) ∷ []) (with_nodes_alone p (put o))) there
      ∙ ap (λ m. Ok (with_nodes_alone p m)) (put_twice nat_cmp_total exact_unsigned nodes id node (with_need true node))

  -- where it is to be
  need_again : (nodes : Nodes) (id : ℕ) (node : Node) (mandatory : Bool) → (is_one p.version && mandatory) ≡ false
      → accept_all (Ok (with_nodes_alone p (insert nodes id node))) (need_edits id mandatory)
      ≡ Ok (with_nodes_alone p (insert nodes id (needed mandatory node)))
  unfolding accept_all
  need_again nodes id node true fits =
      one_then (with_nodes_alone p (insert nodes id node)) (edit.Need id true) []
      (with_nodes_alone p (insert nodes id (with_need true node)))
      (need_taken nodes id node (only_left (is_one p.version) fits)) refl
  need_again nodes id node false fits = refl

  -- one node more, and its need
  node_made : (nodes : Nodes) (e : ℕ × Node) → Each IsBare nodes → get p.nodes e.0 ≡ Some e.1 → IsNodeOf p e.0 e.1
      → accept_all (Ok (with_nodes_alone p nodes)) (node_edits e)
      ≡ Ok (with_nodes_alone p (insert nodes e.0 (bare e.1)))
  unfolding IsNodeOf
  node_made nodes e are there is =
      let put : Node = node_after_put e.1.name e.1.eds (get nodes e.0) in
      one_then (with_nodes_alone p nodes) (edit.Node e.0 e.1.name e.1.eds) (need_edits e.0 e.1.mandatory)
      (with_nodes_alone p (insert nodes e.0 put)) (node_taken nodes e are there is)
      (need_again nodes e.0 put e.1.mandatory is.7
      ∙ ap (λ node. Ok (with_nodes_alone p (insert nodes e.0 node))) (still_bare e.0 e.1 there (get nodes e.0) (are e.0)))

  -- the nodes that are still to come
  nodes_again : (nodes : Nodes) (back : List (ℕ × Node)) → Each IsBare nodes
      → All (λ e. get p.nodes e.0 ≡ Some e.1) back → All (λ e. IsNodeOf p e.0 e.1) back
      → accept_all (Ok (with_nodes_alone p nodes)) (flat_map node_edits back)
      ≡ Ok (with_nodes_alone p (put_all nodes (map bare_entry back)))
  unfolding accept_all put_all
  nodes_again nodes [] are there is = refl
  nodes_again nodes (e ∷ back) are there is =
      let here : get p.nodes e.0 ≡ Some e.1 = All-head (λ x. get p.nodes x.0 ≡ Some x.1) e back there in
      in_turn (Ok (with_nodes_alone p nodes)) (node_edits e) (flat_map node_edits back)
      (with_nodes_alone p (insert nodes e.0 (bare e.1)))
      (node_made nodes e are here (All-head (λ x. IsNodeOf p x.0 x.1) e back is))
      (nodes_again (insert nodes e.0 (bare e.1)) back
      (each_put nat_cmp_total exact_unsigned IsBare nodes e.0 (bare e.1) are (e.1, (here, refl)))
      (All-tail (λ x. get p.nodes x.0 ≡ Some x.1) e back there)
      (All-tail (λ x. IsNodeOf p x.0 x.1) e back is))

-- ---- parameters

module _ (p : Content) (nodes : Nodes) (id : ℕ) (node : Node) where
  -- the project where the node has these parameters
  abbrev with_params : Params → Content
  with_params params = record p { nodes = insert nodes id (record node { params = params }) }

  -- one parameter more
  param_taken : (params : Params) (e : (ℕ × ℕ) × List ℕ) → is_full_for params e.0 ≡ false
      → accept (with_params params) (param_edit id e) ≡ Ok (with_params (insert params e.0 e.1))
  unfolding accept
  param_taken params e free =
      let now : Nodes = insert nodes id (record node { params = params }) in
      ap (λ found. with_nodes (with_params params) (with_param now id e.0 e.1 found))
      (put_there nat_cmp_total exact_unsigned nodes id (record node { params = params }))
      ∙ ap (λ t. with_nodes (with_params params)
      (unless ((t, Limit) ∷ []) (insert now id (record node { params = insert params e.0 e.1 })))) free
      ∙ ap (λ m. Ok (record p { nodes = m }))
      (put_twice nat_cmp_total exact_unsigned nodes id (record node { params = params })
      (record node { params = insert params e.0 e.1 }))

  -- the parameters that are still to come
  params_again : (params : Params) (back : List ((ℕ × ℕ) × List ℕ)) → len params + length back ≤ 4096
      → accept_all (Ok (with_params params)) (map (param_edit id) back) ≡ Ok (with_params (put_all params back))
  unfolding accept_all put_all
  params_again params [] small = refl
  params_again params (e ∷ back) small =
      one_then (with_params params) (param_edit id e) (map (param_edit id) back) (with_params (insert params e.0 e.1))
      (param_taken params e (room 4096 (len params) (length back) _ small))
      (params_again (insert params e.0 e.1) back (let more = one_more places_total params e.0 e.1 in omega arith))

-- all parameters of a node
node_filled : (p q : Content) (nodes : Nodes) (id : ℕ) (node : Node) → get nodes id ≡ Some (bare node)
    → IsNodeOf q id node
    → accept_all (Ok (record p { nodes = nodes })) (param_edits (id, node))
    ≡ Ok (record p { nodes = insert nodes id node })
unfolding IsNodeOf AreParams
node_filled p q nodes id node there is =
    ap (λ m. accept_all (Ok (record p { nodes = m })) (param_edits (id, node)))
    (sym (same_put nodes id (bare node) there))
    ∙ params_again p nodes id node empty (entries node.params) (whole_small 4096 node.params is.6.0)
    ∙ ap (λ params. Ok (with_params p nodes id node params)) (made_again places_total places_exact node.params)

-- a node that is still to come is there without its parameters
abbrev IsBareThere : Node → Option Node → Type 0
IsBareThere node found = found ≡ Some (bare node)

-- the parameters of the nodes that are still to come
nodes_filled : (p q : Content) (nodes : Nodes) (back : List (ℕ × Node)) → T (is_sorted nat_cmp back)
    → AreToCome IsBareThere nodes back → All (λ e. IsNodeOf q e.0 e.1) back
    → accept_all (Ok (record p { nodes = nodes })) (flat_map param_edits back)
    ≡ Ok (record p { nodes = put_all nodes back })
unfolding accept_all put_all
nodes_filled p q nodes [] sorted come all = refl
nodes_filled p q nodes (e ∷ back) sorted come all =
    in_turn (Ok (record p { nodes = nodes })) (param_edits e) (flat_map param_edits back)
    (record p { nodes = insert nodes e.0 e.1 })
    (node_filled p q nodes e.0 e.1 (first_to_come IsBareThere nat_cmp_total exact_unsigned nodes e back come)
    (All-head (λ x. IsNodeOf q x.0 x.1) e back all))
    (nodes_filled p q (insert nodes e.0 e.1) back (second_part _ _ sorted)
    (others_to_come IsBareThere nat_cmp_total exact_unsigned nodes e back come sorted)
    (All-tail (λ x. IsNodeOf q x.0 x.1) e back all))

-- ---- all nodes

-- entries without parameters are found as those with them
find-bare : (q : ℕ) (es : List (ℕ × Node)) → find nat_cmp q (map bare_entry es) ≡ option_map bare (find nat_cmp q es)
find-bare q [] = refl
find-bare q (e ∷ es) = by (eq_by_cmp nat_cmp q e.0) (find-bare q es)
  where
    by : (t : Bool) → find nat_cmp q (map bare_entry es) ≡ option_map bare (find nat_cmp q es)
        → cond t (Some (bare e.1)) (find nat_cmp q (map bare_entry es))
        ≡ option_map bare (cond t (Some e.1) (find nat_cmp q es))
    by true rest = refl
    by false rest = rest

-- and are in the same order
below-bare : (k : ℕ) (es : List (ℕ × Node)) → T (below_all nat_cmp k es) → T (below_all nat_cmp k (map bare_entry es))
below-bare k [] h = tt
below-bare k (e ∷ es) h = both _ _ (first_part _ _ h) (below-bare k es (second_part _ _ h))

sorted-bare : (es : List (ℕ × Node)) → T (is_sorted nat_cmp es) → T (is_sorted nat_cmp (map bare_entry es))
sorted-bare [] h = tt
sorted-bare (e ∷ es) h = both _ _ (below-bare e.0 es (first_part _ _ h)) (sorted-bare es (second_part _ _ h))

module _ (nodes : Nodes) where
  -- the nodes without their parameters
  abbrev all_bare : Nodes
  all_bare = put_all empty (map bare_entry (entries nodes))

  get-bare : (q : ℕ) → get all_bare q ≡ option_or (option_map bare (find nat_cmp q (entries nodes))) None
  get-bare q =
      get-put_all nat_cmp_total exact_unsigned empty (map bare_entry (entries nodes))
      (sorted-bare (entries nodes) (entries_sorted nodes)) q
      ∙ ap (option_or (find nat_cmp q (map bare_entry (entries nodes)))) (get-empty nat_cmp q)
      ∙ ap (λ o. option_or o None) (find-bare q (entries nodes))

  -- are there when their parameters come
  bare_come : AreToCome IsBareThere all_bare (entries nodes)
  bare_come q = by (find nat_cmp q (entries nodes)) (get-bare q)
    where
      by : (o : Option Node) → get all_bare q ≡ option_or (option_map bare o) None
          → IfSome o (λ node. get all_bare q ≡ Some (bare node))
      by None is = tt
      by (Some node) is = is

  -- and with them they are the nodes
  all_filled : put_all all_bare (entries nodes) ≡ nodes
  all_filled = same_map nat_cmp_total exact_unsigned _ _ (λ q.
      get-put_all nat_cmp_total exact_unsigned all_bare (entries nodes) (entries_sorted nodes) q
      ∙ ap (option_or (find nat_cmp q (entries nodes))) (get-bare q) ∙ by (find nat_cmp q (entries nodes))
      ∙ sym (get-entries nodes q))
    where
      by : (o : Option Node) → option_or o (option_or (option_map bare o) None) ≡ o
      by None = refl
      by (Some node) = refl

-- ---- events

-- one event more
event_taken : (p : Content) (events : Events) (e : ℕ × TimedEvent) → IsEventOf p e.0 e.1
    → accept (record p { events = events }) (event_edit e) ≡ Ok (record p { events = insert events e.0 e.1 })
unfolding accept IsEventOf
event_taken p events e is = ap (λ t. unless ((not t, Unknown) ∷ []) (record p { events = insert events e.0 e.1 })) is.3

-- the events that are still to come
events_again : (p : Content) (events : Events) (back : List (ℕ × TimedEvent)) → All (λ e. IsEventOf p e.0 e.1) back
    → accept_all (Ok (record p { events = events })) (map event_edit back)
    ≡ Ok (record p { events = put_all events back })
unfolding accept_all put_all
events_again p events [] all = refl
events_again p events (e ∷ back) all =
    one_then (record p { events = events }) (event_edit e) (map event_edit back)
    (record p { events = insert events e.0 e.1 })
    (event_taken p events e (All-head (λ x. IsEventOf p x.0 x.1) e back all))
    (events_again p (insert events e.0 e.1) back (All-tail (λ x. IsEventOf p x.0 x.1) e back all))

-- ---- the law

-- the first project with the settings of another
abbrev set_up : Content → Content
set_up p = record {
  version = p.version;
  bitrate = p.bitrate;
  horizon = p.horizon;
  manager = p.manager;
  time_stamps = p.time_stamps;
  sync_counter = p.sync_counter;
  texts = empty;
  nodes = empty;
  messages = empty;
  events = empty;
}

-- no message of the first project has a receive
none_receives : have_receives empty ≡ false
none_receives = none_pass nat_list_cmp_total exact_bytes (λ e. has_receives e.1) empty
    (each_empty (λ _ l. has_receives l ≡ false) empty refl)

-- the version
version_again : (version : ScriptVersion)
    → accept_all (Ok first) (version_edits version) ≡ Ok (record first { version = version })
unfolding accept_all accept
version_again One = refl
version_again Two =
    ap (λ t. accept_all (unless ((t || false || has_controller first, InUse) ∷ []) (record first { version = Two })) [])
    none_receives
    ∙ ap (λ o. accept_all (unless ((is_some o, InUse) ∷ []) (record first { version = Two })) [])
    (get-empty {X = Node} nat_cmp first.manager.id)
version_again Three = refl

-- the bit rate, the horizon and the manager
numbers_again : (p : Content) (q : Content) → q.nodes ≡ empty
    → accept_all (Ok q) (edit.Bitrate p.bitrate ∷ edit.Horizon p.horizon ∷ edit.Manager p.manager ∷ [])
    ≡ Ok (record q { bitrate = p.bitrate; horizon = p.horizon; manager = p.manager })
unfolding accept_all accept
numbers_again p q none =
    let rated : Content = record q { bitrate = p.bitrate } in
    let timed : Content = record rated { horizon = p.horizon } in
    let managed : Content = record timed { manager = p.manager } in
    let alone : Bool = not (is_three q.version) in
    one_then q (edit.Bitrate p.bitrate) (edit.Horizon p.horizon ∷ edit.Manager p.manager ∷ []) rated refl
    (one_then rated (edit.Horizon p.horizon) (edit.Manager p.manager ∷ []) timed refl
    (one_then timed (edit.Manager p.manager) [] managed
    (ap (λ nodes. unless ((alone && contains_key nodes p.manager.id, Taken) ∷ []) managed) none
    ∙ ap (λ t. unless ((t, Taken) ∷ []) managed)
    (and_right alone _ (ap is_some (get-empty {X = Node} nat_cmp p.manager.id)))) refl))

-- the time stamps
stamps_again : (q : Content) (stamps : Option TimeStamps) → q.time_stamps ≡ None → IfSome stamps (AreTimeStampsOf q)
    → accept_all (Ok q) (stamps_edits stamps) ≡ Ok (record q { time_stamps = stamps })
unfolding accept_all accept
stamps_again q None none are = ap (λ s. Ok (record q { time_stamps = s })) none
stamps_again q (Some stamps) none are =
    ap (λ t. accept_all (unless ((not t, Range) ∷ []) (record q { time_stamps = Some stamps })) []) are.0

-- the SYNC counter
counter_again : (q : Content) (n : ℕ) → q.sync_counter ≡ 0
    → accept_all (Ok q) (counter_edits n) ≡ Ok (record q { sync_counter = n })
unfolding accept_all accept
counter_again q n none = by (n == 0) refl
  where
    by : (t : Bool) → (n == 0) ≡ t
        → accept_all (Ok q) (if t then [] else edit.SyncCounter n ∷ []) ≡ Ok (record q { sync_counter = n })
    by true same = ap (λ c. Ok (record q { sync_counter = c })) (none ∙ sym (eqb-true n 0 same))
    by false other = refl

-- the settings
settings_again : (p : Content) → IsSound p → accept_all (Ok first) (settings p) ≡ Ok (set_up p)
settings_again p sound =
    let numbers : List Edit = edit.Bitrate p.bitrate ∷ edit.Horizon p.horizon ∷ edit.Manager p.manager ∷ [] in
    let versed : Content = record first { version = p.version } in
    let set : Content = record versed { bitrate = p.bitrate; horizon = p.horizon; manager = p.manager } in
    let stamped : Content = record set { time_stamps = p.time_stamps } in
    in_turn (Ok first) (version_edits p.version ++ numbers ++ stamps_edits p.time_stamps) (counter_edits p.sync_counter)
    stamped
    (in_turn (Ok first) (version_edits p.version ++ numbers) (stamps_edits p.time_stamps) set
    (in_turn (Ok first) (version_edits p.version) numbers versed (version_again p.version) (numbers_again p versed refl))
    (stamps_again set p.time_stamps refl sound.time_stamps))
    (counter_again stamped p.sync_counter refl)

-- all texts
all_texts : (p : Content) → IsSound p → accept_all (Ok (set_up p)) (map text_edit (entries p.texts))
    ≡ Ok (with_nodes_alone p empty)
unfolding AreTexts
all_texts p sound =
    texts_again (set_up p) empty (entries p.texts) (whole_small 64 p.texts sound.texts.0)
    ∙ ap (λ texts. Ok (record (set_up p) { texts = texts })) (made_again nat_list_cmp_total exact_bytes p.texts)

-- all messages
all_messages : (p : Content) → IsSound p
    → accept_all (Ok (with_nodes_alone p p.nodes)) (flat_map message_edits (entries p.messages))
    ≡ Ok (record p { events = empty })
unfolding IsMessageOf
all_messages p sound = messages_come_again (with_nodes_alone p p.nodes) p.messages sound.count sound.messages

-- the edits of a project's script, taken by the first project, make the equal project
pub script_again : (p : Content) → IsSound p → accept_all (Ok first) (edits p) ≡ Ok p
unfolding edits
script_again p sound =
    let nodes = flat_map node_edits (entries p.nodes) in
    let params = flat_map param_edits (entries p.nodes) in
    let each_node : All (λ e. IsNodeOf p e.0 e.1)
    (entries p.nodes) = all_entries nat_cmp_total exact_unsigned (IsNodeOf p) p.nodes sound.nodes in
    let there : All (λ e. get p.nodes e.0 ≡ Some e.1)
    (entries p.nodes) = all_entries nat_cmp_total exact_unsigned (λ id node. get p.nodes id
    ≡ Some node) p.nodes (each_there p.nodes) in
    let each_event : All (λ e. IsEventOf p e.0 e.1)
    (entries p.events) = all_entries nat_cmp_total exact_unsigned (IsEventOf p) p.events sound.events in
    let text_made = in_turn (Ok first) (settings p) (map text_edit (entries p.texts)) (set_up p) (settings_again p sound)
    (all_texts p sound) in
    let nodes_made = in_turn (Ok first) _ nodes (with_nodes_alone p empty) text_made (nodes_again p empty (entries p.nodes)
    (each_empty (IsBare p) empty refl) there each_node) in
    let params_made =
    in_turn (Ok first) _ params (with_nodes_alone p (all_bare p.nodes)) nodes_made
    (nodes_filled (with_nodes_alone p empty) p (all_bare p.nodes) (entries p.nodes) (entries_sorted p.nodes)
    (bare_come p.nodes) each_node ∙ ap (λ m. Ok (with_nodes_alone p m)) (all_filled p.nodes))
    in
    let messages_made = in_turn (Ok first) _ (flat_map message_edits (entries p.messages))
    (with_nodes_alone p p.nodes) params_made (all_messages p sound) in
    in_turn (Ok first) _ (map event_edit (entries p.events)) (record p { events = empty }) messages_made
    (events_again p empty (entries p.events) each_event ∙ ap (λ events. Ok (record p { events = events }))
    (made_again nat_cmp_total exact_unsigned p.events))
