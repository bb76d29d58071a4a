-- The messages of a project come again by the edits of its script.
use Rattle.std.proofs.Common.{◌≡◌, ℕ, ◌+◌, ◌≤◌, ◌∙◌, List, [], ◌∷◌, ◌++◌, length, map, Bool, true, false, not, ◌||◌, T}
use Rattle.std.proofs.Common.{Option, Some, None, Ok, IfSome, All, is_some, refl, sym, ap, arith, ◌==◌, if◌then◌else◌}
use Rattle.std.proofs.lemmas.Bool.{eqb-true}
use Rattle.std.proofs.lemmas.Cmp.{nat_cmp_total, nat_list_cmp_total}
use Rattle.std.proofs.lemmas.List.Elements.{All-head, All-tail}
use Rattle.std.proofs.lemmas.Map.Lookups.{exact_unsigned, exact_bytes}
use Rattle.std.specs.List.{flat_map}
use Rattle.std.specs.Option.{option_map_or}
use Rattle.std.specs.Ordering.{nat_cmp}
use Rattle.std.specs.FinMap.{contains_key, empty, entries, entries_sorted, find, get, get-empty, insert, is_sorted, len}
use Rattle.base.specs.Tables.{Each}
use Rattle.base.proofs.EachLemmas.{all_entries, made_again, one_more, put_all, second_part}
use Rattle.base.proofs.EntryLemmas.{entries_again, put_entries}
use Rattle.base.proofs.TableLemmas.{put_there, put_twice}
use Rattle.project_messages.specs.declared.linked.Linked.{Linked}
use Rattle.project_messages.specs.declared.message.Message.{Message}
use Rattle.project_messages.specs.declared.receive.Receive.{Receive}
use Rattle.project_messages.specs.Messages.{with_changed, is_full_for, linked_to, name_cmp, seat_cmp, with_receive, with_sink}
use Rattle.project_messages.specs.Messages.{with_source}
use Rattle.project_messages.specs.Messages.{with_start}
use Rattle.project_messages.specs.Messages.{AreReceives, AreSinks, AreSources, IsLinked, Named}
use Rattle.project_messages.proofs.LimitLemmas.{seats_exact, seats_total}
use Rattle.project_edits.specs.declared.edit.Edit.TheVariants as edit
use Rattle.project_edits.specs.declared.fault.EditFault.TheVariants.{Limit, Range, Unknown}
use Rattle.project_edits.specs.Accepts.{unless}
use Rattle.co_project.specs.Project.{Content, accept, accept_all}
use Rattle.project_script.specs.Script.{message_edits, receive_edit, sink_edit, source_edit, start_edits}
use Rattle.co_project.specs.Sound.{IsMessageOf, IsReceiveOf}
use Rattle.project_script.proofs.EditsInTurn.{in_turn, one_then, room, whole_small}
use Rattle.project_script.proofs.ToCome.{AreToCome, first_to_come, others_to_come}

-- the project with these messages
abbrev with_messages : Content → Named → Content
with_messages p messages = record p { messages = messages }

-- ---- one message

module _ (p : Content) (messages : Named) (name : List ℕ) where
  -- the project where the name has a message
  abbrev with_linked : Linked → Content
  with_linked l = with_messages p (insert messages name l)

  -- it is there
  linked_there : (l : Linked) → get (insert messages name l) name ≡ Some l
  linked_there l = put_there nat_list_cmp_total exact_bytes messages name l

  -- where it is changed, the name has the changed one
  linked_changed : (change : Linked → Linked) (l : Linked)
      → with_changed change (insert messages name l) name ≡ insert messages name (change l)
  linked_changed change l =
      ap (λ o. option_map_or (λ known. insert (insert messages name l) name (change known)) o (insert messages name l))
      (linked_there l)
      ∙ put_twice nat_list_cmp_total exact_bytes messages name l (change l)

  -- a new message has the start value 0, no sources, no sinks and no receives
  message_taken : (m : Message) → contains_key p.nodes m.node ≡ true → is_full_for messages name ≡ false
      → get messages name ≡ None
      → accept (with_messages p messages) (edit.Message name m) ≡ Ok (with_linked (linked_to None m))
  unfolding accept
  message_taken m there free new =
      ap (λ t. unless ((not t, Unknown) ∷ (is_full_for messages name, Limit) ∷ [])
      (with_linked (linked_to (get messages name) m))) there
      ∙ ap (λ t. unless ((t, Limit) ∷ []) (with_linked (linked_to (get messages name) m))) free
      ∙ ap (λ o. Ok (with_linked (linked_to o m))) new

  -- another SYNC start value
  start_taken : (l : Linked) (n : ℕ) → accept (with_linked l) (edit.Start name n) ≡ Ok (with_linked (with_start n l))
  unfolding accept
  start_taken l n =
      ap (λ o. unless ((not (is_some o), Unknown) ∷ [])
      (with_messages p (with_changed (with_start n) (insert messages name l) name))) (linked_there l)
      ∙ ap (λ m. Ok (with_messages p m)) (linked_changed (with_start n) l)

  -- its SYNC start value, where it isn't that of a new message
  start_again : (l : Linked) (n : ℕ) → l.start ≡ 0
      → accept_all (Ok (with_linked l)) (start_edits name n) ≡ Ok (with_linked (with_start n l))
  unfolding accept_all
  start_again l n none = by (n == 0) refl
    where
      by : (t : Bool) → (n == 0) ≡ t
          → accept_all (Ok (with_linked l)) (if t then [] else edit.Start name n ∷ []) ≡ Ok (with_linked (with_start n l))
      by true same = ap (λ s. Ok (with_linked (with_start s l))) (none ∙ sym (eqb-true n 0 same))
      by false other = one_then (with_linked l) (edit.Start name n) [] (with_linked (with_start n l)) (start_taken l n) refl

  -- one source more
  source_taken : (l : Linked) (e : ℕ × (ℕ × ℕ))
      → accept (with_linked l) (source_edit name e) ≡ Ok (with_linked (with_source e.0 e.1 l))
  unfolding accept
  source_taken l e =
      ap (λ o. unless ((not (is_some o), Unknown) ∷ [])
      (with_messages p (with_changed (with_source e.0 e.1) (insert messages name l) name))) (linked_there l)
      ∙ ap (λ m. Ok (with_messages p m)) (linked_changed (with_source e.0 e.1) l)

  -- the sources that are still to come
  sources_again : (l : Linked) (back : List (ℕ × (ℕ × ℕ)))
      → accept_all (Ok (with_linked l)) (map (source_edit name) back)
      ≡ Ok (with_linked (record l { sources = put_entries nat_cmp nat_cmp_total exact_unsigned l.sources back }))
  unfolding accept_all
  sources_again l [] = refl
  sources_again l (e ∷ back) =
      one_then (with_linked l) (source_edit name e) (map (source_edit name) back) (with_linked (with_source e.0 e.1 l))
      (source_taken l e) (sources_again (with_source e.0 e.1 l) back)

  -- one sink more of a node that is there
  sink_taken : (l : Linked) (e : (ℕ × ℕ) × (ℕ × ℕ)) → contains_key p.nodes e.0.1 ≡ true
      → accept (with_linked l) (sink_edit name e) ≡ Ok (with_linked (with_sink e.0.0 e.0.1 e.1 l))
  unfolding accept
  sink_taken l e there =
      let change : Linked → Linked = with_sink e.0.0 e.0.1 e.1 in
      let put : Named = insert messages name l in
      ap (λ o. unless ((not (is_some o) || not (contains_key p.nodes e.0.1), Unknown) ∷ [])
      (with_messages p (with_changed change put name))) (linked_there l)
      ∙ ap (λ t. unless ((not t, Unknown) ∷ []) (with_messages p (with_changed change put name))) there
      ∙ ap (λ m. Ok (with_messages p m)) (linked_changed change l)

  -- the sinks that are still to come
  sinks_again : (l : Linked) (back : List ((ℕ × ℕ) × (ℕ × ℕ))) → All (λ s. contains_key p.nodes s.0.1 ≡ true) back
      → accept_all (Ok (with_linked l)) (map (sink_edit name) back)
      ≡ Ok (with_linked (record l { sinks = put_entries seat_cmp seats_total seats_exact l.sinks back }))
  unfolding accept_all
  sinks_again l [] there = refl
  sinks_again l (e ∷ back) there =
      one_then (with_linked l) (sink_edit name e) (map (sink_edit name) back)
      (with_linked (with_sink e.0.0 e.0.1 e.1 l))
      (sink_taken l e (All-head (λ s. contains_key p.nodes s.0.1 ≡ true) e back there))
      (sinks_again (with_sink e.0.0 e.0.1 e.1 l) back (All-tail (λ s. contains_key p.nodes s.0.1 ≡ true) e back there))

  -- one receive more of a node that is there, in a version that knows receives
  receive_taken : (l : Linked) (e : ℕ × Receive) → IsReceiveOf p e
      → accept (with_linked l) (receive_edit name e) ≡ Ok (with_linked (with_receive e.0 e.1 l))
  unfolding accept
  receive_taken l e is =
      let change : Linked → Linked = with_receive e.0 e.1 in
      let put : Named = insert messages name l in
      ap (λ t. unless ((not t, Range) ∷ (not (contains_key put name) || not (contains_key p.nodes e.0), Unknown) ∷ [])
      (with_messages p (with_changed change put name))) is.0
      ∙ ap (λ o. unless ((not (is_some o) || not (contains_key p.nodes e.0), Unknown) ∷ [])
      (with_messages p (with_changed change put name))) (linked_there l)
      ∙ ap (λ t. unless ((not t, Unknown) ∷ []) (with_messages p (with_changed change put name))) is.1
      ∙ ap (λ m. Ok (with_messages p m)) (linked_changed change l)

  -- the receives that are still to come
  receives_again : (l : Linked) (back : List (ℕ × Receive)) → All (IsReceiveOf p) back
      → accept_all (Ok (with_linked l)) (map (receive_edit name) back)
      ≡ Ok (with_linked (record l { receives = put_entries nat_cmp nat_cmp_total exact_unsigned l.receives back }))
  unfolding accept_all
  receives_again l [] are = refl
  receives_again l (e ∷ back) are =
      one_then (with_linked l) (receive_edit name e) (map (receive_edit name) back) (with_linked (with_receive e.0 e.1 l))
      (receive_taken l e (All-head (IsReceiveOf p) e back are))
      (receives_again (with_receive e.0 e.1 l) back (All-tail (IsReceiveOf p) e back are))

  -- a new message, its SYNC start value, its sources, its sinks and its receives
  message_made : (l : Linked) → IsMessageOf p name l → is_full_for messages name ≡ false → get messages name ≡ None
      → accept_all (Ok (with_messages p messages)) (message_edits (name, l)) ≡ Ok (with_linked l)
  unfolding IsMessageOf IsLinked AreSources AreSinks AreReceives
  message_made l is free new =
      let sources = map (source_edit name) l.sources in
      let sinks = map (sink_edit name) l.sinks in
      let receives = map (receive_edit name) l.receives in
      let start = start_edits name l.start in
      let sent : Linked = linked_to None l.message in
      let counting : Linked = with_start l.start sent in
      let carrying : Linked = record counting { sources = l.sources } in
      let taken : Linked = record carrying { sinks = l.sinks } in
      one_then (with_messages p messages) (edit.Message name l.message) (start ++ sources ++ sinks ++ receives)
      (with_linked sent) (message_taken l.message is.2 free new)
      (in_turn (Ok (with_linked sent)) (start ++ sources ++ sinks) receives (with_linked taken)
      (in_turn (Ok (with_linked sent)) (start ++ sources) sinks (with_linked carrying)
      (in_turn (Ok (with_linked sent)) start sources (with_linked counting) (start_again sent l.start refl)
      (sources_again counting l.sources ∙ ap (λ es. Ok (with_linked (record counting { sources = es })))
      (entries_again nat_cmp nat_cmp_total exact_unsigned l.sources is.1.2.0)))
      (sinks_again carrying l.sinks is.3 ∙ ap (λ es. Ok (with_linked (record carrying { sinks = es })))
      (entries_again seat_cmp seats_total seats_exact l.sinks is.1.3.0)))
      (receives_again taken l.receives is.4 ∙ ap (λ es. Ok (with_linked (record taken { receives = es })))
      (entries_again nat_cmp nat_cmp_total exact_unsigned l.receives is.1.4.0)))

-- ---- all messages

-- a message that is still to come isn't there
abbrev IsNew : Linked → Option Linked → Type 0
IsNew l found = found ≡ None

-- the messages that are still to come
messages_again : (p : Content) (messages : Named) (back : List (List ℕ × Linked)) → len messages + length back ≤ 1024
    → T (is_sorted name_cmp back) → AreToCome IsNew messages back
    → All (λ e. IsMessageOf p e.0 e.1) back → accept_all (Ok (with_messages p messages)) (flat_map message_edits back)
    ≡ Ok (with_messages p (put_all messages back))
unfolding accept_all put_all
messages_again p messages [] small sorted come all = refl
messages_again p messages (e ∷ back) small sorted come all =
    in_turn (Ok (with_messages p messages)) (message_edits e) (flat_map message_edits back)
    (with_messages p (insert messages e.0 e.1))
    (message_made p messages e.0 e.1 (All-head (λ x. IsMessageOf p x.0 x.1) e back all)
    (room 1024 (len messages) (length back) _ small)
    (first_to_come IsNew nat_list_cmp_total exact_bytes messages e back come))
    (messages_again p (insert messages e.0 e.1) back (let more = one_more nat_list_cmp_total messages e.0 e.1
    in omega arith) (second_part _ _ sorted)
    (others_to_come IsNew nat_list_cmp_total exact_bytes messages e back come sorted)
    (All-tail (λ x. IsMessageOf p x.0 x.1) e back all))

-- none is there at first
all_new : (messages : Named) → AreToCome {R = name_cmp} IsNew empty (entries messages)
all_new messages name = by (find name_cmp name (entries messages))
  where
    by : (o : Option Linked) → IfSome o (λ l. IsNew l (get (empty {R = name_cmp}) name))
    by None = tt
    by (Some l) = get-empty name_cmp name

-- all messages of a project
pub messages_come_again : (p : Content) (messages : Named) → len messages ≤ 1024 → Each (IsMessageOf p) messages
    → accept_all (Ok (with_messages p empty)) (flat_map message_edits (entries messages))
    ≡ Ok (with_messages p messages)
messages_come_again p messages few each =
    messages_again p empty (entries messages) (whole_small 1024 messages few) (entries_sorted messages)
    (all_new messages) (all_entries nat_list_cmp_total exact_bytes (IsMessageOf p) messages each)
    ∙ ap (λ m. Ok (with_messages p m)) (made_again nat_list_cmp_total exact_bytes messages)
