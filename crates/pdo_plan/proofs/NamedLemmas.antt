-- The plan asks only of the nodes that its messages name.
use Rattle.std.proofs.Common.{◌≡◌, ℕ, ◌==◌, nat_lt, Bool, true, false, not, ◌&&◌, ◌||◌, List, [], ◌∷◌, ◌++◌, length}
use Rattle.std.proofs.Common.{filter_map, Option, Some, None, is_some, is_none, option_map, option_and_then, refl, sym, ap}
use Rattle.std.proofs.Common.{◌∙◌, arith}
use Rattle.std.specs.BTreeSet.{insert_key}
use Rattle.std.specs.FinMap.{entries}
use Rattle.std.specs.List.{list_any, cons_option, range_with_len, AllByRecursion}
use Rattle.std.specs.Prelude.{if◌then◌else◌}
use Rattle.std.specs.Map.{lookup}
use Rattle.std.specs.Option.{option_map_or}
use Rattle.std.specs.Ordering.{nat_cmp}
use Rattle.std.proofs.lemmas.Bool.Decides.{nat_tests}
use Rattle.co_dict.specs.declared.direction.Direction.TheVariants.{Transmit, Receive}
use Rattle.co_dict.specs.declared.entry.Entry.{Entry}
use Rattle.co_dict.specs.Pdos.{is_mappable}
use Rattle.co_values.specs.declared.data_type.DataType.{DataType}
use Rattle.co_values.specs.declared.data_type.DataType.TheVariants.{NotModelled}
use Rattle.co_values.specs.Types.{width_bits}
use Rattle.cia301.specs.TransmissionTypes.{is_reserved, type_of_byte}
use Rattle.eds_device.specs.Entries.{entry_at, dummy_allowed}
use Rattle.eds_device.specs.Sheets.{Sheet}
use Rattle.project_messages.specs.declared.linked.Linked.{Linked}
use Rattle.project_messages.specs.Messages.{source_at, is_of_message, is_of_messages, Named}
use Rattle.pdo_choices.specs.declared.clean.Clean.{Clean}
use Rattle.pdo_plan.specs.declared.message_fault.MessageFault.{MessageFault}
use Rattle.pdo_plan.specs.declared.message_fault.MessageFault.TheVariants.{NoObjects, TpdoTaken, TooManyBits}
use Rattle.pdo_plan.specs.declared.message_fault.MessageFault.TheVariants.{NotMappable, Mismatched, NoRpdo, NoDummy}
use Rattle.pdo_plan.specs.declared.message_fault.MessageFault.TheVariants.{BadIdentifier, NoIdentifier, ReservedType}
use Rattle.pdo_plan.specs.declared.outcome.Outcome.TheVariants.{Planned}
use Rattle.pdo_plan.specs.declared.planned_message.PlannedMessage.{PlannedMessage}
use Rattle.pdo_stations.specs.Devices.{Devices, devices_of, can_map, is_of_manager}
use Rattle.cia301.specs.PdoObjects.{rpdo_object, tpdo_object}
use Rattle.pdo_choices.specs.Least.{least_free}
use Rattle.pdo_choices.specs.Consumers.{Sinks, nodes_put, consumers_of}
use Rattle.pdo_plan.specs.Mapping.{misfit, bits_of, sent_mapping, taken_mapping, is_mismatched, lacks_dummy_at}
use Rattle.pdo_choices.specs.Had.{Had, Withheld, had_by, withheld_by}
use Rattle.pdo_choices.specs.Rpdos.{is_free_rpdo, rpdo_for, vendor_rpdo}
use Rattle.pdo_plan.specs.Plan.{consumer_of}
use Rattle.pdo_plan.specs.Plan.{planned_consumers, has_objects, has_unmappable, has_mismatch}
use Rattle.pdo_choices.specs.Identifiers.{identifier_for, automatic, explicit, fixed_for, sought_identifier}
use Rattle.pdo_plan.specs.Plan.{lacks_rpdo, lacks_dummy, faults_that_hold, faults, message_outcome, judged_message}
use Rattle.pdo_plan.specs.Plan.{planned_message, clean, plan_after, plan_of}
use Rattle.pdo_choices.specs.Receives.{names_rpdo, event_named}
use Rattle.pdo_plan.specs.Plan.{has_named_objects, serves_message}
use Rattle.project_messages.specs.declared.message.Message.{Message}
use Rattle.pdo_stations.specs.Carried.{carried_by, carried_of}
use Rattle.pdo_stations.specs.declared.as_made.AsMade.{AsMade}
use Rattle.std.proofs.lemmas.List.{length-map}
use Rattle.vendor_pdos.specs.Fixed.{fixed_at, fixed_identifier, fixes, is_withheld}
use Rattle.pdo_choices.proofs.OrderLemmas.{all_inserted}
use Rattle.pdo_stations.proofs.AlikeLemmas.{pdo_alike, start_alike, times_alike}

-- ---- lists

module _ {X : Type 0} where
  each_is : (P Q : X → Type 0) → ((x : X) → P x → Q x) → (xs : List X) → AllByRecursion P xs → AllByRecursion Q xs
  each_is P Q is [] each = tt
  each_is P Q is (x ∷ xs) each = (is x each.0, each_is P Q is xs each.1)

  any_alike : (p q : X → Bool) (xs : List X) → AllByRecursion (λ x. p x ≡ q x) xs → list_any p xs ≡ list_any q xs
  any_alike p q [] each = refl
  any_alike p q (x ∷ xs) each = λ i. each.0 i || any_alike p q xs each.1 i

  given_alike : {Y : Type 0} (f g : X → Option Y) (xs : List X) → AllByRecursion (λ x. f x ≡ g x) xs
      → filter_map f xs ≡ filter_map g xs
  given_alike f g [] each = refl
  given_alike f g (x ∷ xs) each = λ i. cons_option (each.0 i) (given_alike f g xs each.1 i)

-- the nodes that sinks name are so where each sink's node is
all_put : (P : ℕ → Type 0) (nodes : List ℕ) (sinks : Sinks) → AllByRecursion P nodes
    → AllByRecursion (λ s. P s.0.1) sinks → AllByRecursion P (nodes_put nodes sinks)
all_put P nodes [] known each = known
all_put P nodes (s ∷ sinks) known each =
    all_put P (insert_key nat_cmp nodes s.0.1) sinks (all_inserted P nodes s.0.1 known each.0) each.1

all_consumers : (P : ℕ → Type 0) (sinks : Sinks) → AllByRecursion (λ s. P s.0.1) sinks
    → AllByRecursion P (consumers_of sinks)
unfolding consumers_of
all_consumers P sinks each = all_put P [] sinks tt each

-- ---- one message

-- two devices say the same of a node
pub record AreAlikeAt (d e : Devices) (node : ℕ) : Type 0 where
  pub entry : d.entry node ≡ e.entry node
  pub dummy : d.dummy node ≡ e.dummy node

-- and of each that a message names
pub record AreAlikeFor (d e : Devices) (m : Linked) : Type 0 where
  pub sender : AreAlikeAt d e m.message.node
  pub takers : AllByRecursion (λ s. AreAlikeAt d e s.0.1) m.sinks

-- a device with these entries and dummies at every node
abbrev one : (ℕ × ℕ → Option Entry) → (ℕ → Bool) → Devices
one entry dummy = record { entry = λ node. entry; dummy = λ node. dummy; vendor = None; controller = None }

-- ---- devices by the rules of versions 1 and 2

module _ (x : Devices) (none : x.vendor ≡ None) where
  plain_objects : (m : Linked) → has_objects x m ≡ has_named_objects x m (length m.sources)
  plain_objects m = ap (λ (vendor : Option (ℕ → Option AsMade)). option_map_or
      (λ made. option_map_or (serves_message m (carried_of x m.message.node m.sources)) (made m.message.node) false)
      vendor (has_named_objects x m (length m.sources))) none

  plain_fixed : (node object : ℕ) → fixed_at x node object ≡ None
  plain_fixed node object = ap (λ (vendor : Option (ℕ → Option AsMade)). option_and_then
      (λ made. option_and_then (λ device. fixed_identifier device object) (made node)) vendor) none

  plain_identifier : (had : Had) (m : Message) → identifier_for had x m
      ≡ (if m.cob == 0 then automatic had m.node m.tpdo else explicit had m.cob)
  unfolding identifier_for
  plain_identifier had m = ap (λ (o : Option ℕ). option_map_or (fixed_for had m.cob) o
      (if m.cob == 0 then automatic had m.node m.tpdo else explicit had m.cob))
      (plain_fixed m.node (tpdo_object m.tpdo))

  plain_rpdo : (had : Had) (m : Linked) (node : ℕ) → rpdo_for had x m node
      ≡ least_free (is_free_rpdo had x node (length m.sources)) 1 512
  unfolding rpdo_for
  plain_rpdo had m node =
      let cs = carried_of x m.message.node m.sources in
      ap (λ (vendor : Option (ℕ → Option AsMade)). option_map_or
      (λ made. option_and_then (λ device. vendor_rpdo had device m cs (sought_identifier had x m.message) node)
      (made node)) vendor (least_free (is_free_rpdo had x node (length cs)) 1 512)) none
      ∙ ap (λ (n : ℕ). least_free (is_free_rpdo had x node n) 1 512)
      (length-map m.sources (carried_by x m.message.node))

  plain_withheld : (ms : List (List ℕ × Linked)) → withheld_by x ms
      ≡ record { identifier = λ id. false; rpdo = λ node number. false }
  unfolding withheld_by is_withheld
  plain_withheld ms = ap (λ (vendor : Option (ℕ → Option AsMade)). let held : Withheld = record {
    identifier = λ id. option_map_or
        (λ made. list_any (λ node. option_map_or (λ device. fixes device id) (made node) false) (range_with_len 1 127))
        vendor false;
    rpdo = λ node number. is_some vendor && list_any (λ m. names_rpdo node number m.1) ms;
  } in held) none

module _ (had : Had) (d e : Devices) (dn : d.vendor ≡ None) (en : e.vendor ≡ None) (cs : d.controller ≡ e.controller)
    (m : Linked) (same : AreAlikeFor d e m) where
  abbrev sender : ℕ
  sender = m.message.node

  nodes_alike : AllByRecursion (AreAlikeAt d e) (consumers_of m.sinks)
  nodes_alike = all_consumers (AreAlikeAt d e) m.sinks same.takers

  objects_alike : has_objects d m ≡ has_objects e m
  objects_alike =
      let object = tpdo_object m.message.tpdo in
      let named : has_named_objects d m (length m.sources) ≡ has_named_objects e m (length m.sources) =
      λ i. pdo_alike d e sender sender object (length m.sources) same.sender.entry i
      && times_alike d e sender sender object m.message.inhibit m.message.event same.sender.entry i
      && start_alike d e sender sender object m.start same.sender.entry i in
      plain_objects d dn m ∙ named ∙ sym (plain_objects e en m)

  identifier_alike : identifier_for had d m.message ≡ identifier_for had e m.message
  identifier_alike = plain_identifier d dn had m.message ∙ sym (plain_identifier e en had m.message)

  bits_alike : bits_of d sender m.sources ≡ bits_of e sender m.sources
  bits_alike = λ i. bits_of (one (same.sender.entry i) (same.sender.dummy i)) sender m.sources

  sent_alike : sent_mapping d sender m.sources ≡ sent_mapping e sender m.sources
  unfolding sent_mapping
  sent_alike = λ i. sent_mapping (one (same.sender.entry i) (same.sender.dummy i)) sender m.sources

  unmappable_alike : has_unmappable d m ≡ has_unmappable e m
  unmappable_alike =
      let sinks = any_alike (λ s. not (can_map Receive d s.0.1 s.1) || (s.0.1 == sender))
      (λ s. not (can_map Receive e s.0.1 s.1) || (s.0.1 == sender)) m.sinks
      (each_is (λ s. AreAlikeAt d e s.0.1) _ (λ s at. λ i. not (option_map_or (is_mappable Receive)
      (at.entry i s.1) false && not (is_of_manager (cs i) s.0.1 s.1)) || (s.0.1 == sender)) m.sinks same.takers) in
      λ i. list_any (λ s. not (option_map_or (is_mappable Transmit) (same.sender.entry i s.1) false
      && not (is_of_manager (cs i) sender s.1))) m.sources
      || sinks i

  mismatch_alike : has_mismatch d m ≡ has_mismatch e m
  mismatch_alike =
      let width : (ℕ × ℕ → Option Entry) → ℕ × ℕ
      → Option ℕ = λ entry place. option_and_then (λ (x : Entry). width_bits x.kind) (entry place) in
      let kind : (ℕ × ℕ → Option Entry) → ℕ × ℕ
      → DataType = λ entry place. option_map_or (λ (x : Entry). x.kind) (entry place) NotModelled in
      any_alike (is_mismatched d sender m.sources) (is_mismatched e sender m.sources) m.sinks
      (each_is (λ s. AreAlikeAt d e s.0.1) _ (λ s at. λ i. option_map_or
      (λ place. misfit (width (same.sender.entry i) place) (kind (same.sender.entry i) place)
      (width (at.entry i) s.1) (kind (at.entry i) s.1))
      (source_at m.sources s.0.0) true) m.sinks same.takers)

  rpdo_alike : (node : ℕ) → AreAlikeAt d e node
      → rpdo_for had d m node ≡ rpdo_for had e m node
  rpdo_alike node at =
      let free : (number : ℕ) → is_free_rpdo had d node (length m.sources) number
      ≡ is_free_rpdo had e node (length m.sources) number =
      λ number. ap (λ b. not (had.rpdo node number) && b)
      (pdo_alike d e node node (rpdo_object number) (length m.sources) at.entry) in
      plain_rpdo d dn had m node ∙ ap (λ (f : ℕ → Bool). least_free f 1 512) (λ i number. free number i)
      ∙ sym (plain_rpdo e en had m node)

  rpdos_alike : lacks_rpdo had d m ≡ lacks_rpdo had e m
  rpdos_alike =
      any_alike (λ node. is_none (rpdo_for had d m node))
      (λ node. is_none (rpdo_for had e m node)) (consumers_of m.sinks)
      (each_is (AreAlikeAt d e) _ (λ node at. ap is_none (rpdo_alike node at)) (consumers_of m.sinks) nodes_alike)

  dummies_alike : lacks_dummy d m ≡ lacks_dummy e m
  dummies_alike =
      any_alike (λ node. list_any (lacks_dummy_at d sender m.sinks node) m.sources)
      (λ node. list_any (lacks_dummy_at e sender m.sinks node) m.sources) (consumers_of m.sinks)
      (each_is (AreAlikeAt d e) _ (λ node at. λ i. list_any
      (lacks_dummy_at (one (same.sender.entry i) (at.dummy i)) sender m.sinks node) m.sources)
      (consumers_of m.sinks) nodes_alike)

  consumer_alike : (node : ℕ) → AreAlikeAt d e node → consumer_of had d m node ≡ consumer_of had e m node
  unfolding taken_mapping
  consumer_alike node at =
      λ i. option_map (λ number. record {
        node = node;
        rpdo = number;
        mapping = taken_mapping (one (same.sender.entry i) (at.dummy i)) sender m.sources m.sinks node;
        event = event_named m node;
      })
      (rpdo_alike node at i)

  consumers_alike : planned_consumers had d m ≡ planned_consumers had e m
  unfolding planned_consumers
  consumers_alike =
      given_alike (consumer_of had d m) (consumer_of had e m) (consumers_of m.sinks)
      (each_is (AreAlikeAt d e) _ consumer_alike (consumers_of m.sinks) nodes_alike)

  faults_alike : faults had d m ≡ faults had e m
  unfolding faults
  faults_alike = λ i. faults_that_hold ((not (objects_alike i), NoObjects)
      ∷ (had.tpdo m.message.node m.message.tpdo, TpdoTaken)
      ∷ (nat_lt 64 (bits_alike i), TooManyBits)
      ∷ (unmappable_alike i, NotMappable)
      ∷ (mismatch_alike i, Mismatched)
      ∷ (rpdos_alike i, NoRpdo)
      ∷ (dummies_alike i, NoDummy)
      ∷ (not (m.message.cob == 0) && not (is_some (identifier_alike i)), BadIdentifier)
      ∷ (m.message.cob == 0 && not (is_some (identifier_alike i)), NoIdentifier)
      ∷ (is_reserved (type_of_byte m.message.transmission), ReservedType) ∷ [])

  outcome_alike : (id : Option ℕ) (fs : List MessageFault)
      → message_outcome had d m id fs ≡ message_outcome had e m id fs
  outcome_alike None fs = refl
  outcome_alike (Some id) (f ∷ fs) = refl
  outcome_alike (Some id) [] =
      λ i. Planned (record {
        message = m.message;
        start = m.start;
        identifier = id;
        mapping = sent_alike i;
        consumers = consumers_alike i;
      })

  pub judged_alike : judged_message had d m ≡ judged_message had e m
  unfolding judged_message
  judged_alike = outcome_alike (identifier_for had d m.message) (faults had d m)
      ∙ (λ i. message_outcome had e m (identifier_alike i) (faults_alike i))

-- ---- the plan

module _ (d e : Devices) (dn : d.vendor ≡ None) (en : e.vendor ≡ None) (cs : d.controller ≡ e.controller) where
  after_alike : (withheld : Withheld) (before : List Clean) (ms : List (List ℕ × Linked))
      → AllByRecursion (λ m. AreAlikeFor d e m.1) ms → plan_after withheld d before ms ≡ plan_after withheld e before ms
  after_alike withheld before [] each = refl
  after_alike withheld before (m ∷ ms) each =
      let said : PlannedMessage = planned_message (had_by withheld before) d m in
      let same : said ≡ planned_message (had_by withheld before) e m =
      λ i. record { name = m.0; outcome = judged_alike (had_by withheld before) d e dn en cs m.1 each.0 i } in
      ap (λ ps. said ∷ ps) (after_alike withheld (before ++ clean (said ∷ [])) ms each.1)
      ∙ ap (λ (p : PlannedMessage). p ∷ plan_after withheld e (before ++ clean (p ∷ [])) ms) same

  pub plan_alike : (ms : List (List ℕ × Linked)) → AllByRecursion (λ m. AreAlikeFor d e m.1) ms
      → plan_of d ms ≡ plan_of e ms
  unfolding plan_of
  plan_alike ms each = after_alike (withheld_by d ms) [] ms each
      ∙ ap (λ (withheld : Withheld). plan_after withheld e [] ms)
      (plain_withheld d dn ms ∙ sym (plain_withheld e en ms))

-- ---- the nodes that messages name

or_left : (a b : Bool) → a ≡ true → a || b ≡ true
or_left a b t = ap (λ x. x || b) t

or_right : (a b : Bool) → b ≡ true → a || b ≡ true
or_right true b t = refl
or_right false b t = t

itself : (n : ℕ) → (n == n) ≡ true
itself n = grind (arith, nat_tests)

module _ (d e : Devices) where
  takers_named : (sinks : Sinks) → ((node : ℕ) → list_any (λ s. s.0.1 == node) sinks ≡ true → AreAlikeAt d e node)
      → AllByRecursion (λ s. AreAlikeAt d e s.0.1) sinks
  takers_named [] holds = tt
  takers_named (s ∷ sinks) holds = (
    holds s.0.1 (or_left (s.0.1 == s.0.1) _ (itself s.0.1)),
    takers_named sinks (λ node named. holds node (or_right (s.0.1 == node) _ named)),
  )

  message_named : (m : Linked) → ((node : ℕ) → is_of_message node m ≡ true → AreAlikeAt d e node) → AreAlikeFor d e m
  message_named m holds = record {
    sender = holds m.message.node (or_left (m.message.node == m.message.node) _ (itself m.message.node));
    takers = takers_named m.sinks (λ node named. holds node (or_right (m.message.node == node) _ named));
  }

  pub messages_named : (ms : List (List ℕ × Linked))
      → ((node : ℕ) → list_any (λ m. is_of_message node m.1) ms ≡ true → AreAlikeAt d e node)
      → AllByRecursion (λ m. AreAlikeFor d e m.1) ms
  messages_named [] holds = tt
  messages_named (m ∷ ms) holds = (
    message_named m.1 (λ node named. holds node (or_left (is_of_message node m.1) _ named)),
    messages_named ms (λ node named. holds node (or_right (is_of_message node m.1) _ named)),
  )

-- of a node that two lists of nodes look up alike their devices say the same
lookup_alike : (controller : Option ℕ) (a b : List (ℕ × Sheet)) (node : ℕ)
    → lookup (λ n. n == node) a ≡ lookup (λ n. n == node) b
    → AreAlikeAt (devices_of false controller a) (devices_of false controller b) node
lookup_alike controller a b node same = record {
  entry = λ i place. option_and_then (λ sheet. entry_at sheet node place.0 place.1) (same i);
  dummy = λ i kind. option_map_or (λ sheet. dummy_allowed sheet.sections kind) (same i) false;
}

pub named_alike : (controller : Option ℕ) (a b : List (ℕ × Sheet)) (messages : Named)
    → ((node : ℕ) → is_of_messages node messages ≡ true → lookup (λ n. n == node) a ≡ lookup (λ n. n == node) b)
    → plan_of (devices_of false controller a) (entries messages) ≡ plan_of (devices_of false controller b) (entries messages)
named_alike controller a b messages same =
    let d : Devices = devices_of false controller a in
    let e : Devices = devices_of false controller b in
    plan_alike d e refl refl refl (entries messages)
    (messages_named d e (entries messages) (λ node named. lookup_alike controller a b node (same node named)))
