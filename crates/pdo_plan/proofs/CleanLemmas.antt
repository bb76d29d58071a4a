-- A clean message, by its sources with their widths and its consumers.
use Rattle.std.proofs.Common.{◌≡◌, ◌==◌, true, false, ℕ, List, [], ◌∷◌, length, filter_map, Option, Some, None}
use Rattle.std.proofs.Common.{option_map, ◌≤◌, refl, sym, ap, ◌∙◌, arith}
use Rattle.std.proofs.lemmas.Bool.Decides.{nat_tests}
use Rattle.std.proofs.lemmas.List.{length-map}
use Rattle.project_messages.specs.declared.linked.Linked.{Linked}
use Rattle.project_messages.specs.Messages.{IsLinked}
use Rattle.pdo_stations.specs.declared.carried.Carried.{Carried}
use Rattle.pdo_plan.specs.declared.message_fault.MessageFault.{MessageFault}
use Rattle.pdo_plan.specs.declared.outcome.Outcome.TheVariants.{Planned, Faulty}
use Rattle.pdo_stations.specs.Devices.{Devices}
use Rattle.pdo_plan.specs.Mapping.{sent_mapping}
use Rattle.pdo_stations.specs.Carried.{carried_by, carried_of, sent_by}
use Rattle.pdo_plan.specs.Carried.{consumer_by, clean_by}
use Rattle.pdo_choices.specs.Had.{Had}
use Rattle.pdo_choices.specs.Receives.{event_named}
use Rattle.pdo_choices.specs.Rpdos.{rpdo_by, rpdo_for}
use Rattle.pdo_choices.specs.Identifiers.{identifier_for, sought_identifier}
use Rattle.pdo_plan.specs.Plan.{consumer_of}
use Rattle.pdo_choices.specs.Consumers.{consumers_of}
use Rattle.pdo_plan.specs.Plan.{planned_consumers, faults}
use Rattle.pdo_plan.specs.Plan.{message_outcome, judged_message}
use Rattle.pdo_plan.proofs.CarriedLemmas.{sent_same, taken_same}
use Rattle.pdo_choices.proofs.IdentifierLemmas.{sought_same}
use Rattle.pdo_plan.proofs.LimitLemmas.{limits_of}

module _ (had : Had) (devices : Devices) (m : Linked) where
  abbrev sources : List Carried
  sources = carried_of devices m.message.node m.sources

  abbrev sought : Option ℕ
  sought = sought_identifier had devices m.message

  consumer_same : (node : ℕ) → consumer_by had devices m sources sought node ≡ consumer_of had devices m node
  unfolding consumer_by rpdo_for
  consumer_same node =
      λ i. option_map (λ number. record {
        node = node;
        rpdo = number;
        mapping = taken_same devices m.message.node m.sinks node m.sources i;
        event = event_named m node;
      })
      (rpdo_by had devices m sources sought node)

  consumers_same : filter_map (consumer_by had devices m sources sought) (consumers_of m.sinks)
      ≡ planned_consumers had devices m
  unfolding planned_consumers
  consumers_same = λ i. filter_map (λ node. consumer_same node i) (consumers_of m.sinks)

  pub planned_is : (cs : List Carried) (nodes : List ℕ) (id : ℕ) (fs : List MessageFault)
      → cs ≡ carried_of devices m.message.node m.sources → nodes ≡ consumers_of m.sinks
      → identifier_for had devices m.message ≡ Some id → fs ≡ faults had devices m → fs ≡ []
      → Planned (clean_by had devices m cs nodes id) ≡ judged_message had devices m
  unfolding judged_message
  planned_is cs nodes id fs carried named found all none =
      let own : Some id ≡ sought = sym (sought_same had devices m.message id found) in
      let sent_is : sent_by cs ≡ sent_mapping devices m.message.node m.sources = ap sent_by carried
      ∙ sent_same devices m.message.node m.sources in
      let taken_is : filter_map (consumer_by had devices m cs (Some id)) nodes ≡ planned_consumers had devices m =
      ap (λ (x : List Carried). filter_map (consumer_by had devices m x (Some id)) nodes) carried
      ∙ ap (λ (x : Option ℕ). filter_map (consumer_by had devices m sources x) nodes) own
      ∙ ap (filter_map (consumer_by had devices m sources sought)) named ∙ consumers_same in
      let made : Planned (clean_by had devices m cs nodes id) ≡ message_outcome had devices m (Some id) [] =
      λ i. Planned (record {
        message = m.message;
        start = m.start;
        identifier = id;
        mapping = sent_is i;
        consumers = taken_is i;
      }) in
      let clean : [] ≡ faults had devices m = sym none ∙ all in
      made ∙ (λ i. message_outcome had devices m (sym found i) (clean i))

  -- no identifier, or a fault
  pub faulty_is : (fs : List MessageFault) → fs ≡ faults had devices m
      → ((id : ℕ) → identifier_for had devices m.message ≡ Some id → fs ≡ [] → ⊥) → Faulty fs ≡ judged_message had devices m
  unfolding judged_message
  faulty_is fs all not_clean = by (identifier_for had devices m.message) fs refl all not_clean
    where
      by : (o : Option ℕ) (gs : List MessageFault) → o ≡ identifier_for had devices m.message → gs ≡ faults had devices m
          → ((id : ℕ) → o ≡ Some id → gs ≡ [] → ⊥)
          → Faulty gs ≡ message_outcome had devices m (identifier_for had devices m.message) (faults had devices m)
      by None gs found all not_clean = λ i. message_outcome had devices m (found i) (all i)
      by (Some id) [] found all not_clean = absurd (not_clean id refl refl)
      by (Some id) (g ∷ gs) found all not_clean = λ i. message_outcome had devices m (found i) (all i)

-- a message has few sources with their widths
pub carried_few : (devices : Devices) (m : Linked) (cs : List Carried) → IsLinked m
    → cs ≡ carried_of devices m.message.node m.sources → length cs ≤ 64
carried_few devices m cs kept is =
    let count : length cs ≡ length m.sources = ap length is ∙ length-map m.sources (carried_by devices m.message.node)
    in
    let few : length m.sources ≤ 64 = (limits_of m kept).sources in
    omega (arith, count, few)

pub none_of : (fs : List MessageFault) → (length fs == 0) ≡ true → fs ≡ []
none_of [] e = refl
none_of (f ∷ fs) e = grind (arith, nat_tests)

pub some_of : (fs : List MessageFault) → (length fs == 0) ≡ false → fs ≡ [] → ⊥
some_of [] e none = grind (arith, nat_tests)
some_of (f ∷ fs) e none = cc
