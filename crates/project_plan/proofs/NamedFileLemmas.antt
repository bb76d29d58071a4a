-- A node that no message of a project names is named by no clean one.
use Rattle.std.proofs.Common.{◌≡◌, ◌∙◌, ℕ, ◌==◌, false, List, [], ◌∷◌, ◌++◌, Contains, Some, refl, sym, ap, subst}
use Rattle.std.proofs.Common.{arith}
use Rattle.std.specs.BTreeSet.{insert_key}
use Rattle.std.specs.FinMap.{entries}
use Rattle.std.specs.List.{list_any, AllByRecursion}
use Rattle.std.specs.Ordering.{nat_cmp}
use Rattle.std.proofs.lemmas.Bool.{or_parts}
use Rattle.std.proofs.lemmas.Bool.Decides.{nat_tests}
use Rattle.std.proofs.lemmas.List.Elements.{All-contains, All-from_recursion}
use Rattle.project_messages.specs.declared.linked.Linked.{Linked}
use Rattle.project_messages.specs.declared.message.Message.{Message}
use Rattle.project_messages.specs.Messages.{is_of_messages, is_of_message}
use Rattle.node_parameters.proofs.WrittenLemmas.{from_filter_map}
use Rattle.co_project.specs.Project.{Content, controller_of}
use Rattle.pdo_stations.specs.Devices.{Devices, devices_of}
use Rattle.pdo_choices.specs.declared.clean.Clean.{Clean}
use Rattle.pdo_choices.specs.declared.consumer.Consumer.{Consumer}
use Rattle.pdo_plan.specs.declared.outcome.Outcome.{Outcome}
use Rattle.pdo_plan.specs.declared.outcome.Outcome.TheVariants.{Planned, Faulty}
use Rattle.pdo_plan.specs.declared.planned_message.PlannedMessage.{PlannedMessage}
use Rattle.pdo_choices.specs.Consumers.{Sinks, consumers_of, nodes_put}
use Rattle.pdo_choices.specs.Had.{Had, Withheld, had_by, withheld_by}
use Rattle.pdo_plan.specs.Plan.{clean, consumer_of, judged_message}
use Rattle.pdo_plan.specs.Plan.{planned_consumers, plan_after, plan_of, planned_message}
use Rattle.pdo_plan.proofs.JudgedLemmas.{consumer_is, judged_clean}
use Rattle.pdo_choices.proofs.OrderLemmas.{all_inserted}
use Rattle.pdo_links.specs.Order.{IsNamedByNone}
use Rattle.project_edits.specs.Versions.{is_three}
use Rattle.project_plan.specs.Network.{sheets_of_members, plan_of_project}

module _ (node : ℕ) where
  abbrev IsOther : ℕ → Type 0
  IsOther n = n ≡ node → ⊥

  other : (n : ℕ) → (n == node) ≡ false → n ≡ node → ⊥
  other n e is = grind (arith, nat_tests)

  -- the nodes that sinks name are others where each sink's node is
  all_put : (nodes : List ℕ) (sinks : Sinks) → AllByRecursion IsOther nodes
      → list_any (λ s. s.0.1 == node) sinks ≡ false → AllByRecursion IsOther (nodes_put nodes sinks)
  all_put nodes [] known none = known
  all_put nodes (s ∷ sinks) known none =
      let parts = or_parts (s.0.1 == node) (list_any (λ s. s.0.1 == node) sinks) none in
      all_put (insert_key nat_cmp nodes s.0.1) sinks (all_inserted IsOther nodes s.0.1 known (other s.0.1 parts.0))
      parts.1

  none_consumes : (sinks : Sinks) → list_any (λ s. s.0.1 == node) sinks ≡ false
      → AllByRecursion IsOther (consumers_of sinks)
  unfolding consumers_of
  none_consumes sinks none = all_put [] sinks tt none

  module _ (devices : Devices) where
    -- a clean message doesn't name a node that its message doesn't
    abbrev Unnamed : Clean → Type 0
    Unnamed c = (c.message.node ≡ node → ⊥) × ((k : Consumer) → Contains c.consumers k → k.node ≡ node → ⊥)

    no_taker : (had : Had) (m : Linked) (k : Consumer) → list_any (λ s. s.0.1 == node) m.sinks ≡ false
        → Contains (planned_consumers had devices m) k → k.node ≡ node → ⊥
    unfolding planned_consumers
    no_taker had m k none has is =
        let from : (n : ℕ) × Contains (consumers_of m.sinks) n
        × (consumer_of had devices m n ≡ Some k) = from_filter_map (consumer_of had devices m)
        (consumers_of m.sinks) k has in
        let at = (consumer_is had devices m from.0 k from.2).at in
        All-contains IsOther (consumers_of m.sinks) from.0 (All-from_recursion IsOther (consumers_of m.sinks)
        (none_consumes m.sinks none)) from.1 (sym at ∙ is)

    unnamed : (had : Had) (m : Linked) (c : Clean) → is_of_message node m ≡ false
        → judged_message had devices m ≡ Planned c → Unnamed c
    unnamed had m c none e =
        let is = judged_clean had devices m c e in
        let parts = or_parts (m.message.node == node) (list_any (λ s. s.0.1 == node) m.sinks) none in (
          λ same. other m.message.node parts.0 (ap (λ (x : Message). x.node) is.message ∙ same),
          λ k has same. no_taker had m k parts.1 (subst (λ (ks : List Consumer). Contains ks k)
              (sym is.consumers) has) same,
        )

    after : (withheld : Withheld) (before : List Clean) (ms : List (List ℕ × Linked))
        → list_any (λ e. is_of_message node e.1) ms ≡ false
        → AllByRecursion Unnamed (clean (plan_after withheld devices before ms))
    after withheld before [] none = tt
    after withheld before (m ∷ ms) none =
        let parts = or_parts (is_of_message node m.1) (list_any (λ e. is_of_message node e.1) ms) none in
        let said : PlannedMessage = planned_message (had_by withheld before) devices m in
        by parts.0 (judged_message (had_by withheld before) devices m.1) refl
        (plan_after withheld devices (before ++ clean (said ∷ [])) ms)
        (after withheld (before ++ clean (said ∷ [])) ms parts.1)
      where
        by : is_of_message node m.1 ≡ false → (o : Outcome) → judged_message (had_by withheld before) devices m.1 ≡ o
            → (rest : List PlannedMessage) → AllByRecursion Unnamed (clean rest)
            → AllByRecursion Unnamed (clean ((let p : PlannedMessage = record { name = m.0; outcome = o } in p) ∷ rest))
        by none (Planned c) e rest all = (unnamed (had_by withheld before) m.1 c none e, all)
        by none (Faulty fs) e rest all = all

    unnamed_all : (ms : List (List ℕ × Linked)) → list_any (λ e. is_of_message node e.1) ms ≡ false
        → AllByRecursion Unnamed (clean (plan_of devices ms))
    unfolding plan_of
    unnamed_all ms none = after (withheld_by devices ms) [] ms none

  pub named_by_none : (p : Content) → is_of_messages node p.messages ≡ false
      → IsNamedByNone (clean (plan_of_project p)) node
  unfolding plan_of_project
  named_by_none p none c has =
      let devices : Devices = devices_of (is_three p.version) (controller_of p) (sheets_of_members p) in
      All-contains (Unnamed devices) (clean (plan_of devices (entries p.messages))) c
      (All-from_recursion (Unnamed devices) _ (unnamed_all devices (entries p.messages) none)) has
