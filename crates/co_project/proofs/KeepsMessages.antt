-- The messages of a project, where an edit changes them or the nodes.
use Rattle.std.proofs.Common.{◌≡◌, ℕ, ◌+◌, sym, ◌∙◌, List, [], ◌∷◌, length, true, false, cond, not, ◌&&◌, ◌==◌, Option, Some, None}
use Rattle.std.proofs.Common.{All, IfSome, is_some, refl, ap, arith}
use Rattle.std.proofs.lemmas.Bool.{true≢false, or_parts, eq-eqb, eqb-true, not-false}
use Rattle.std.proofs.lemmas.Cmp.{nat_cmp_total, nat_list_cmp_total}
use Rattle.std.proofs.lemmas.List.Elements.{All-nil, All-cons, All-head, All-tail, All-weaker}
use Rattle.std.proofs.lemmas.Map.Lookups.{exact_unsigned, exact_bytes}
use Rattle.std.specs.BTreeMap.{is_at}
use Rattle.std.specs.FinMap.{FinMap, contains_key, get, insert, len, len-insert, remove}
use Rattle.std.specs.List.{list_any}
use Rattle.std.specs.Option.{option_map_or}
use Rattle.std.specs.Ordering.{nat_cmp}
use Rattle.base.specs.Ranges.{is_between, AreIndices}
use Rattle.base.specs.Tables.{Each}
use Rattle.base.proofs.EachLemmas.{each_fails, each_found, each_put, each_weaker, known_after_put}
use Rattle.base.proofs.EntryLemmas.{All-left, All-put}
use Rattle.base.proofs.TableLemmas.{removed_elsewhere}
use Rattle.project_messages.specs.declared.linked.Linked.{Linked}
use Rattle.project_messages.specs.declared.message.Message.{Message}
use Rattle.project_messages.specs.declared.receive.Receive.{Receive}
use Rattle.project_messages.specs.Messages.{with_changed, is_of_messages, is_of_message, is_position, is_start, linked_to}
use Rattle.project_messages.specs.Messages.{seat_cmp, with_message, with_sink, with_source, with_start, without_sink}
use Rattle.project_messages.specs.Messages.{are_received, is_received, with_receive, without_receive, without_source}
use Rattle.project_messages.specs.Messages.{has_receives, have_receives, IsReceive, Named}
use Rattle.project_messages.proofs.LimitLemmas.{linked_message, seats_exact, sink_left, sink_put, source_left, source_put}
use Rattle.project_messages.proofs.LimitLemmas.{receive_left, receive_put, start_put}
use Rattle.project_edits.specs.declared.edit.Edit.TheVariants as edit
use Rattle.project_edits.specs.declared.script_version.ScriptVersion.{ScriptVersion}
use Rattle.project_edits.specs.declared.script_version.ScriptVersion.TheVariants.{One, Two, Three}
use Rattle.project_edits.specs.Versions.{is_three}
use Rattle.project_edits.specs.Edits.{IsEdit}
use Rattle.co_project.specs.declared.node.Node.{Node}
use Rattle.co_project.specs.Tables.{Nodes}
use Rattle.co_project.specs.Project.{Content}
use Rattle.co_project.specs.Sound.{IsMessageOf, IsReceiveOf}

-- ---- other nodes

-- another number is left where one is taken away
pub still_there : {X : Type 0} (m : FinMap nat_cmp X) (id n : ℕ) → (n == id) ≡ false → get (remove m id) n ≡ get m n
still_there m id n other =
    removed_elsewhere nat_cmp_total exact_unsigned m id n (λ same. true≢false (sym (eq-eqb n id same) ∙ other))

-- sinks whose nodes are there
abbrev HaveNodes : Nodes → List ((ℕ × ℕ) × (ℕ × ℕ)) → Type 0
HaveNodes nodes sinks = All (λ s. contains_key nodes s.0.1 ≡ true) sinks

-- sinks of other nodes than one that goes
sinks_stay : (nodes : Nodes) (id : ℕ) (sinks : List ((ℕ × ℕ) × (ℕ × ℕ))) → list_any (λ s. s.0.1 == id) sinks ≡ false
    → HaveNodes nodes sinks → HaveNodes (remove nodes id) sinks
sinks_stay nodes id [] others have = All-nil _
sinks_stay nodes id (s ∷ sinks) others have =
    let parts = or_parts (s.0.1 == id) (list_any (λ x. x.0.1 == id) sinks) others in
    All-cons (λ x. contains_key (remove nodes id) x.0.1 ≡ true) s sinks
    (ap is_some (still_there nodes id s.0.1 parts.0) ∙ All-head (λ x. contains_key nodes x.0.1 ≡ true) s sinks have)
    (sinks_stay nodes id sinks parts.1 (All-tail (λ x. contains_key nodes x.0.1 ≡ true) s sinks have))

-- receives of other nodes than one that goes
receives_stay : (p : Content) (id : ℕ) (receives : List (ℕ × Receive)) → list_any (λ r. r.0 == id) receives ≡ false
    → All (IsReceiveOf p) receives → All (IsReceiveOf (record p { nodes = remove p.nodes id })) receives
receives_stay p id [] others have = All-nil _
receives_stay p id (r ∷ receives) others have =
    let parts = or_parts (r.0 == id) (list_any (λ x. x.0 == id) receives) others in
    let here : IsReceiveOf p r = All-head (IsReceiveOf p) r receives have in
    All-cons (IsReceiveOf (record p { nodes = remove p.nodes id })) r receives
    (here.0, ap is_some (still_there p.nodes id r.0 parts.0) ∙ here.1)
    (receives_stay p id receives parts.1 (All-tail (IsReceiveOf p) r receives have))

module _ (p : Content) (id : ℕ) (each : Each (IsMessageOf p) p.messages) where
  -- the messages stay where a node is put
  pub messages_with_node : (node : Node) → Each (IsMessageOf (record p { nodes = insert p.nodes id node })) p.messages
  unfolding IsMessageOf
  messages_with_node node = each_weaker (IsMessageOf p) (IsMessageOf with) p.messages stays each
    where
      with : Content
      with = record p { nodes = insert p.nodes id node }

      known : (n : ℕ) → contains_key p.nodes n ≡ true → contains_key with.nodes n ≡ true
      known n = known_after_put nat_cmp_total p.nodes id n node

      stays : (name : List ℕ) (l : Linked) → get p.messages name ≡ Some l → IsMessageOf p name l
          → IsMessageOf with name l
      stays name l found is = (
        is.0,
        is.1,
        known l.message.node is.2,
        All-weaker (λ s. contains_key p.nodes s.0.1 ≡ true)
            (λ s. contains_key with.nodes s.0.1 ≡ true) (λ s. known s.0.1) l.sinks is.3,
        All-weaker (IsReceiveOf p) (IsReceiveOf with) (λ r have. (have.0, known r.0 have.1)) l.receives is.4,
      )

  -- and where one goes that they don't concern
  pub messages_without_node : is_of_messages id p.messages ≡ false → are_received id p.messages ≡ false
      → Each (IsMessageOf (record p { nodes = remove p.nodes id })) p.messages
  unfolding IsMessageOf
  messages_without_node none unreceived = each_weaker (IsMessageOf p) (IsMessageOf without) p.messages stays each
    where
      without : Content
      without = record p { nodes = remove p.nodes id }

      stays : (name : List ℕ) (l : Linked) → get p.messages name ≡ Some l → IsMessageOf p name l
          → IsMessageOf without name l
      stays name l found is =
          let other : is_of_message id l ≡ false =
          each_found (λ k v. is_of_message id v ≡ false) p.messages name l
          (each_fails nat_list_cmp_total exact_bytes (λ e. is_of_message id e.1) p.messages none) found in
          let apart : is_received id l ≡ false =
          each_found (λ k v. is_received id v ≡ false) p.messages name l
          (each_fails nat_list_cmp_total exact_bytes (λ e. is_received id e.1) p.messages unreceived) found in
          let parts = or_parts (l.message.node == id) (list_any (λ s. s.0.1 == id) l.sinks) other in (
            is.0,
            is.1,
            ap is_some (still_there p.nodes id l.message.node parts.0)
                ∙ is.2,
            sinks_stay p.nodes id l.sinks parts.1 is.3,
            receives_stay p id l.receives apart is.4,
          )

-- ---- other messages

module _ (p : Content) (name : List ℕ) where
  -- a message, new or sent in another way
  pub message_sent : (m : Message) → IsEdit (edit.Message name m) → contains_key p.nodes m.node ≡ true
      → Each (IsMessageOf p) p.messages → Each (IsMessageOf p) (with_message p.messages name m)
  unfolding IsEdit IsMessageOf
  message_sent m h there each =
      each_put nat_list_cmp_total exact_bytes (IsMessageOf p) p.messages name (linked_to (get p.messages name) m) each
      (by (get p.messages name) (each name))
    where
      by : (known : Option Linked) → IfSome known (IsMessageOf p name) → IsMessageOf p name (linked_to known m)
      by None is = (h.0, linked_message None m h.1 tt, there, All-nil _, All-nil _)
      by (Some l) is = (h.0, linked_message (Some l) m h.1 is.1, there, is.3, is.4)

  -- one with another SYNC start value
  pub start_kept : (start : ℕ) → is_start start ≡ true → (l : Linked) → IsMessageOf p name l
      → IsMessageOf p name (with_start start l)
  unfolding IsMessageOf
  start_kept start fits l is = (is.0, start_put l start is.1 fits, is.2, is.3, is.4)

  -- one with one source more, or another in its place
  pub source_kept : (position : ℕ) (place : ℕ × ℕ) → is_position position ≡ true → AreIndices place.0 place.1
      → (l : Linked) → IsMessageOf p name l → IsMessageOf p name (with_source position place l)
  unfolding IsMessageOf
  source_kept position place fits are l is = (is.0, source_put l position place is.1 fits are, is.2, is.3, is.4)

  -- with one less
  pub unsource_kept : (position : ℕ) (l : Linked) → IsMessageOf p name l
      → IsMessageOf p name (without_source position l)
  unfolding IsMessageOf
  unsource_kept position l is = (is.0, source_left l position is.1, is.2, is.3, is.4)

  -- with one sink more of a node that is there, or another in its place
  pub sink_kept : (position node : ℕ) (place : ℕ × ℕ) → is_position position ≡ true → is_between 1 127 node ≡ true
      → AreIndices place.0 place.1 → contains_key p.nodes node ≡ true
      → (l : Linked) → IsMessageOf p name l → IsMessageOf p name (with_sink position node place l)
  unfolding IsMessageOf
  sink_kept position node place fits taker are there l is = (
    is.0,
    sink_put l position node place is.1 fits taker are,
    is.2,
    All-put seat_cmp (λ s. contains_key p.nodes s.0.1 ≡ true) l.sinks (
      position,
      node,
    ) place seats_exact is.3 there,
    is.4,
  )

  -- with one less
  pub unsink_kept : (position node : ℕ) (l : Linked) → IsMessageOf p name l
      → IsMessageOf p name (without_sink position node l)
  unfolding IsMessageOf
  unsink_kept position node l is = (
    is.0,
    sink_left l position node is.1,
    is.2,
    All-left (is_at (seat_cmp (position, node)))
        (λ s. contains_key p.nodes s.0.1 ≡ true) l.sinks is.3,
    is.4,
  )

  -- one with one receive more of a node that is there, or another in its place
  pub receive_kept : (node : ℕ) (receive : Receive) → IsReceive (node, receive) → IsReceiveOf p (node, receive)
      → (l : Linked) → IsMessageOf p name l → IsMessageOf p name (with_receive node receive l)
  unfolding IsMessageOf
  receive_kept node receive within of_it l is = (
    is.0,
    receive_put l node receive is.1 within,
    is.2,
    is.3,
    All-put nat_cmp (IsReceiveOf p) l.receives node receive exact_unsigned is.4 of_it,
  )

  -- with one less
  pub unreceive_kept : (node : ℕ) (l : Linked) → IsMessageOf p name l → IsMessageOf p name (without_receive node l)
  unfolding IsMessageOf
  unreceive_kept node l is = (
    is.0,
    receive_left l node is.1,
    is.2,
    is.3,
    All-left (is_at (nat_cmp node)) (IsReceiveOf p) l.receives is.4,
  )

  module _ (change : Linked → Linked) where
    -- messages of which one is changed
    pub messages_changed : ((l : Linked) → IsMessageOf p name l → IsMessageOf p name (change l))
        → Each (IsMessageOf p) p.messages → Each (IsMessageOf p) (with_changed change p.messages name)
    messages_changed keeps each = by (get p.messages name) (each name)
      where
        by : (found : Option Linked) → IfSome found (IsMessageOf p name)
            → Each (IsMessageOf p) (option_map_or (λ known. insert p.messages name (change known)) found p.messages)
        by None is = each
        by (Some l) is = each_put nat_list_cmp_total exact_bytes (IsMessageOf p) p.messages name (change l) each
            (keeps l is)

    -- are as many
    pub as_many : (messages : Named) → len (with_changed change messages name) ≡ len messages
    as_many messages = by (get messages name) refl
      where
        by : (found : Option Linked) → get messages name ≡ found
            → len (option_map_or (λ known. insert messages name (change known)) found messages) ≡ len messages
        by None none = refl
        by (Some l) found = len-insert nat_list_cmp_total messages name (change l)
            ∙ ap (λ o. cond (is_some o) (len messages) (len messages + 1)) found

-- ---- another version

-- a message without receives has none of a project
no_receives : (p : Content) (l : Linked) → has_receives l ≡ false → All (IsReceiveOf p) l.receives
no_receives p l none = by l.receives (eqb-true (length l.receives) 0 (not-false (length l.receives == 0) none))
  where
    by : (receives : List (ℕ × Receive)) → length receives ≡ 0 → All (IsReceiveOf p) receives
    by [] none = All-nil _
    by (r ∷ receives) none = absurd (omega arith)

-- the messages fit a version that knows receives, or have none
pub messages_in_version : (p : Content) (version : ScriptVersion)
    → (not (is_three version) && have_receives p.messages) ≡ false
    → Each (IsMessageOf p) p.messages → Each (IsMessageOf (record p { version = version })) p.messages
unfolding IsMessageOf
messages_in_version p version fits each = each_weaker (IsMessageOf p) (IsMessageOf with) p.messages stays each
  where
    with : Content
    with = record p { version = version }

    without : have_receives p.messages ≡ false → (name : List ℕ) (l : Linked) → get p.messages name ≡ Some l
        → has_receives l ≡ false
    without none name l found =
        each_found (λ k v. has_receives v ≡ false) p.messages name l
        (each_fails nat_list_cmp_total exact_bytes (λ e. has_receives e.1) p.messages none) found

    receives_fit : (v : ScriptVersion) → (not (is_three v) && have_receives p.messages) ≡ false
        → (name : List ℕ) (l : Linked) → get p.messages name ≡ Some l → All (IsReceiveOf p) l.receives
        → All (IsReceiveOf (record p { version = v })) l.receives
    receives_fit Three fits name l found have =
        All-weaker (IsReceiveOf p) (IsReceiveOf (record p { version = Three })) (λ r of_it. (refl, of_it.1)) l.receives have
    receives_fit One none name l found have = no_receives (record p { version = One }) l (without none name l found)
    receives_fit Two none name l found have = no_receives (record p { version = Two }) l (without none name l found)

    stays : (name : List ℕ) (l : Linked) → get p.messages name ≡ Some l → IsMessageOf p name l → IsMessageOf with name l
    stays name l found is = (is.0, is.1, is.2, is.3, receives_fit version fits name l found is.4)
