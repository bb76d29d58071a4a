-- The messages that a tree by names makes, where one is put or changed.
use Rattle.std.proofs.Common.{◌≡◌, ℕ, Vec, List, false, Some, None, IsSome, is_some, option_and_then, refl, sym}
use Rattle.std.proofs.Common.{ap, subst, ◌∙◌}
use Rattle.std.specs.BTreeMap.{BTreeMap, Updates, WritesThrough}
use Rattle.std.specs.FinMap.{get, insert}
use Rattle.std.specs.Option.{option_map_or}
use Rattle.std.proofs.lemmas.Cmp.{nat_list_cmp_total}
use Rattle.std.proofs.lemmas.Map.Lookups.{exact_bytes}
use Rattle.base.proofs.TableLemmas.{put_again}
use Rattle.project_messages.specs.declared.linked.Linked.{Linked}
use Rattle.project_messages.specs.declared.message.Message.{Message}
use Rattle.project_messages.specs.Messages.{with_changed, has_receive, has_sink, has_source, linked_to, name_cmp}
use Rattle.project_messages.specs.Messages.{receive_at, sink_at, source_at}
use Rattle.project_messages.specs.Messages.{with_message, AreMessages, IsLinked, IsMessage, Named}
use Rattle.project_messages.proofs.LimitLemmas.{linked_message, limits_at, messages_changed, messages_put}
use Rattle.project_messages.proofs.NameLemmas.{key_cmp, made, value_changed, value_found, value_in, value_put}

module _ {A : Type 0} (tree : BTreeMap (Vec ℕ A) Linked) (messages : Named) (name : List ℕ)
    (is : made tree.entries ≡ messages) where
  -- a message that the tree has
  pub message_found : (l : Linked) → Some l ≡ value_in tree.entries name → get messages name ≡ Some l
  message_found l found = ap (λ m. get m name) (sym is) ∙ value_found tree.entries name ∙ sym found

  -- one that it hasn't
  pub message_missing : None ≡ value_in tree.entries name → get messages name ≡ None
  message_missing none = ap (λ m. get m name) (sym is) ∙ value_found tree.entries name ∙ sym none

  -- no message is changed that isn't there
  pub none_changed : (change : Linked → Linked) → None ≡ value_in tree.entries name
      → messages ≡ with_changed change messages name
  none_changed change none = sym (ap (λ o. option_map_or (λ known. insert messages name (change known)) o messages)
      (message_missing none))

  module _ (after : BTreeMap (Vec ℕ A) Linked) where
    -- nothing is changed
    pub messages_stay : after ≡ tree → made after.entries ≡ messages
    messages_stay same = ap (λ t. made t.entries) same ∙ is

    module _ (old : Linked) (found : Some old ≡ value_in tree.entries name) (new : Linked)
        (writes : WritesThrough key_cmp (λ k. name_cmp name k.items) tree new after) where
      -- a message that is there becomes another
      message_changed : made after.entries ≡ insert messages name new
      message_changed =
          value_changed tree.entries after.entries name old new found (writes.3 (subst IsSome found refl)).0
          ∙ ap (λ m. insert m name new) is

      -- it is changed
      pub message_is : (change : Linked → Linked) → new ≡ change old
          → made after.entries ≡ with_changed change messages name
      message_is change same =
          message_changed ∙ ap (insert messages name) same
          ∙ sym (ap (λ o. option_map_or (λ known. insert messages name (change known)) o messages)
          (message_found old found))

      -- it is as it was
      pub message_stays : new ≡ old → made after.entries ≡ messages
      message_stays same = message_changed ∙ ap (insert messages name) same
          ∙ put_again nat_list_cmp_total exact_bytes messages name old (message_found old found)

      -- it is sent in another way
      pub message_sent : (message : Message) → new ≡ record old { message = message }
          → made after.entries ≡ with_message messages name message
      message_sent message same = message_changed ∙ ap (insert messages name) same
          ∙ sym (ap (λ o. insert messages name (linked_to o message)) (message_found old found))

-- a new message
pub message_added : {A : Type 0} (tree after : BTreeMap (Vec ℕ A) Linked) (messages : Named) (key : Vec ℕ A)
    (l : Linked) (message : Message) → made tree.entries ≡ messages
    → get messages key.items ≡ None → l ≡ linked_to None message → Updates key_cmp tree after key (Some l)
    → made after.entries ≡ with_message messages key.items message
message_added tree after messages key l message is none new updates =
    value_put tree.entries after.entries key l updates.0 ∙ ap (λ m. insert m key.items l) is
    ∙ ap (insert messages key.items) new ∙ sym (ap (λ o. insert messages key.items (linked_to o message)) none)

-- ---- limits

-- messages where a name gets one
pub sent_within : (after messages : Named) (name : List ℕ) (message : Message)
    → after ≡ with_message messages name message → AreMessages messages → IsMessage message → AreMessages after
sent_within after messages name message same are is =
    subst AreMessages (sym same)
    (messages_put messages name (linked_to (get messages name) message) are
    (linked_message (get messages name) message is (limits_at messages name are)))

-- messages of which one is changed
pub changed_within : (change : Linked → Linked) (after messages : Named) (name : List ℕ)
    → after ≡ with_changed change messages name → ((l : Linked) → IsLinked l → IsLinked (change l))
    → AreMessages messages → AreMessages after
changed_within change after messages name same keeps are = subst AreMessages (sym same)
    (messages_changed change messages name keeps are)

-- ---- what a message hasn't

module _ (messages : Named) (name : List ℕ) (l : Linked) (found : get messages name ≡ Some l) (position : ℕ) where
  -- no source at a position
  pub no_source : source_at l.sources position ≡ None → has_source messages name position ≡ false
  no_source none = ap (λ o. is_some (option_and_then (λ (m : Linked). source_at m.sources position) o)) found
      ∙ ap is_some none

  -- no sink of a node there
  pub no_sink : (node : ℕ) → sink_at l.sinks position node ≡ None → has_sink messages name position node ≡ false
  no_sink node none = ap (λ o. is_some (option_and_then (λ (m : Linked). sink_at m.sinks position node) o)) found
      ∙ ap is_some none

-- no receive of a node
pub no_receive : (messages : Named) (name : List ℕ) (l : Linked) → get messages name ≡ Some l → (node : ℕ)
    → receive_at l.receives node ≡ None → has_receive messages name node ≡ false
no_receive messages name l found node none =
    ap (λ o. is_some (option_and_then (λ (m : Linked). receive_at m.receives node) o)) found ∙ ap is_some none
