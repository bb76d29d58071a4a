-- The plan of messages: what each that can be sent gets, or why it can't be sent (the order is this profile's own).
use Rattle.std.specs.Prelude.{◌≡◌, ℕ, ◌≤◌, ◌==◌, Bool, true, false, not, ◌&&◌, ◌||◌, nat_lt, List, [], ◌∷◌, ◌++◌}
use Rattle.std.specs.Prelude.{length, map, filter, filter_map, Option, Some, None, is_some, is_none, option_map}
use Rattle.std.specs.Option.{option_map_or}
use Rattle.std.specs.List.{list_any, All, Contains}
use Rattle.co_dict.specs.declared.direction.Direction.TheVariants.{Transmit, Receive}
use Rattle.cia301.specs.TransmissionTypes.{is_reserved, type_of_byte}
use Rattle.eds_device.specs.Sheets.{Sheet}
use Rattle.project_messages.specs.declared.linked.Linked.{Linked}
use Rattle.pdo_plan.specs.declared.message_fault.MessageFault.{MessageFault}
use Rattle.pdo_plan.specs.declared.message_fault.MessageFault.TheVariants.{NoObjects, TpdoTaken, TooManyBits}
use Rattle.pdo_plan.specs.declared.message_fault.MessageFault.TheVariants.{NotMappable, Mismatched, NoRpdo, NoDummy}
use Rattle.pdo_plan.specs.declared.message_fault.MessageFault.TheVariants.{BadIdentifier, NoIdentifier, ReservedType}
use Rattle.pdo_choices.specs.declared.consumer.Consumer.{Consumer}
use Rattle.pdo_choices.specs.declared.clean.Clean.{Clean}
use Rattle.pdo_plan.specs.declared.outcome.Outcome.{Outcome}
use Rattle.pdo_plan.specs.declared.outcome.Outcome.TheVariants.{Planned, Faulty}
use Rattle.pdo_plan.specs.declared.planned_message.PlannedMessage.{PlannedMessage}
use Rattle.pdo_stations.specs.declared.as_made.AsMade.{AsMade}
use Rattle.pdo_stations.specs.declared.carried.Carried.{Carried}
use Rattle.pdo_stations.specs.Carried.{carried_of}
use Rattle.pdo_stations.specs.Devices.{Devices, devices_of, can_map, has_pdo, has_start, has_times}
use Rattle.vendor_pdos.specs.Choices.{sent_choices, taken_choices}
use Rattle.vendor_pdos.specs.Serving.{sends, takes}
use Rattle.cia301.specs.PdoObjects.{rpdo_object, tpdo_object}
use Rattle.pdo_plan.specs.Mapping.{mapping_bits, bits_of, sent_mapping, taken_mapping, is_mismatched, lacks_dummy_at}
use Rattle.pdo_choices.specs.Had.{Withheld, Had, had_by, had_too, withheld_by}
use Rattle.pdo_choices.specs.Receives.{event_named}
use Rattle.pdo_choices.specs.Identifiers.{identifier_for}
use Rattle.pdo_choices.specs.Consumers.{consumers_of}
use Rattle.pdo_choices.specs.Rpdos.{rpdo_for}

-- ---- consumers

-- a consumer with its RPDO, what that maps, and its event time
abbrev pub consumer_of : Had → Devices → Linked → ℕ → Option Consumer
consumer_of had devices m node =
    option_map (λ number. record {
      node = node;
      rpdo = number;
      mapping = taken_mapping devices m.message.node m.sources m.sinks node;
      event = event_named m node;
    })
    (rpdo_for had devices m node)

unfoldable pub planned_consumers : Had → Devices → Linked → List Consumer
planned_consumers had devices m = filter_map (consumer_of had devices m) (consumers_of m.sinks)

-- ---- faults

-- the sender's PDO has what its writes name, with so many mapping entries
abbrev pub has_named_objects : Devices → Linked → ℕ → Bool
has_named_objects devices m count =
    has_pdo devices m.message.node (tpdo_object m.message.tpdo) count
    && has_times devices m.message.node (tpdo_object m.message.tpdo) m.message.inhibit m.message.event
    && has_start devices m.message.node (tpdo_object m.message.tpdo) m.start

-- or, in version 3, serves the message
abbrev pub serves_message : Linked → List Carried → AsMade → Bool
serves_message m cs device = sends device m.message m.start (sent_choices cs)

abbrev pub has_objects : Devices → Linked → Bool
has_objects devices m =
    option_map_or
    (λ made. option_map_or (serves_message m (carried_of devices m.message.node m.sources)) (made m.message.node) false)
    devices.vendor (has_named_objects devices m (length m.sources))

-- a source or sink that isn't there or can't be mapped in its direction, or a sink on the sender
abbrev pub has_unmappable : Devices → Linked → Bool
has_unmappable devices m =
    list_any (λ s. not (can_map Transmit devices m.message.node s.1)) m.sources
    || list_any (λ s. not (can_map Receive devices s.0.1 s.1) || (s.0.1 == m.message.node)) m.sinks

abbrev pub has_mismatch : Devices → Linked → Bool
has_mismatch devices m = list_any (is_mismatched devices m.message.node m.sources) m.sinks

abbrev pub lacks_rpdo : Had → Devices → Linked → Bool
lacks_rpdo had devices m = list_any (λ node. is_none (rpdo_for had devices m node)) (consumers_of m.sinks)

abbrev pub lacks_dummy : Devices → Linked → Bool
lacks_dummy devices m =
    list_any (λ node. list_any (lacks_dummy_at devices m.message.node m.sinks node) m.sources) (consumers_of m.sinks)

-- of faults with their tests those whose test holds
abbrev pub faults_that_hold : List (Bool × MessageFault) → List MessageFault
faults_that_hold tests = map (λ t. t.1) (filter (λ t. t.0) tests)

-- ALL FAULTS of a message, where this is had
unfoldable pub faults : Had → Devices → Linked → List MessageFault
faults had devices m =
    let has_identifier = is_some (identifier_for had devices m.message) in
    faults_that_hold ((not (has_objects devices m), NoObjects)
    ∷ (had.tpdo m.message.node m.message.tpdo, TpdoTaken)
    ∷ (nat_lt 64 (bits_of devices m.message.node m.sources), TooManyBits)
    ∷ (has_unmappable devices m, NotMappable)
    ∷ (has_mismatch devices m, Mismatched)
    ∷ (lacks_rpdo had devices m, NoRpdo)
    ∷ (lacks_dummy devices m, NoDummy)
    ∷ (not (m.message.cob == 0) && not has_identifier, BadIdentifier)
    ∷ (m.message.cob == 0 && not has_identifier, NoIdentifier)
    ∷ (is_reserved (type_of_byte m.message.transmission), ReservedType) ∷ [])

-- ---- the plan

-- a message with an identifier and no fault is clean
abbrev pub message_outcome : Had → Devices → Linked → Option ℕ → List MessageFault → Outcome
message_outcome had devices m (Some id) [] = Planned (record {
  message = m.message;
  start = m.start;
  identifier = id;
  mapping = sent_mapping devices m.message.node m.sources;
  consumers = planned_consumers had devices m;
})
message_outcome had devices m (Some id) (fault ∷ others) = Faulty (fault ∷ others)
message_outcome had devices m None others = Faulty others

-- what is said of a message where this is had
unfoldable pub judged_message : Had → Devices → Linked → Outcome
judged_message had devices m = message_outcome had devices m (identifier_for had devices m.message) (faults had devices m)

abbrev pub clean_of : Outcome → Option Clean
clean_of (Planned c) = Some c
clean_of (Faulty fs) = None

-- the clean messages of a plan
abbrev pub clean : List PlannedMessage → List Clean
clean ps = filter_map (λ (p : PlannedMessage). clean_of p.outcome) ps

abbrev pub planned_message : Had → Devices → List ℕ × Linked → PlannedMessage
planned_message had devices m = record { name = m.0; outcome = judged_message had devices m.1 }

-- what is had when the message of an outcome, where it is clean, has its own
abbrev pub had_after : Had → Outcome → Had
had_after had (Planned c) = had_too had c
had_after had (Faulty fs) = had

-- messages in order of name: each is judged against the clean ones before it alone
abbrev pub plan_after : Withheld → Devices → List Clean → List (List ℕ × Linked) → List PlannedMessage
plan_after withheld devices before [] = []
plan_after withheld devices before (m ∷ ms) =
    let said = planned_message (had_by withheld before) devices m in
    said ∷ plan_after withheld devices (before ++ clean (said ∷ [])) ms

-- THE PLAN of messages
unfoldable pub plan_of : Devices → List (List ℕ × Linked) → List PlannedMessage
plan_of devices ms = plan_after (withheld_by devices ms) devices [] ms

-- ---- what every plan keeps to

-- what a clean message maps fits a frame, at its sender and at each consumer: at most 64 bits
abbrev pub FitFrames : Clean → Type 0
FitFrames c = (mapping_bits c.mapping ≤ 64) × All (λ (k : Consumer). mapping_bits k.mapping ≤ 64) c.consumers

-- a device has what the writes of a PDO name
abbrev pub HasPdo : Sheet → ℕ → ℕ → ℕ → Type 0
HasPdo sheet node object count = has_pdo (devices_of false None ((node, sheet) ∷ [])) node object count ≡ true

-- each PDO that the plan gives a node is one that its device has
abbrev pub IsMadeFor : List PlannedMessage → Sheet → ℕ → Type 0
IsMadeFor plan sheet node =
    (c : Clean) → Contains (clean plan) c
    → (c.message.node ≡ node → HasPdo sheet node (tpdo_object c.message.tpdo) (length c.mapping))
    × ((k : Consumer) → Contains c.consumers k → k.node ≡ node → HasPdo sheet node (rpdo_object k.rpdo) (length k.mapping))

-- in version 3 the PDOs of a clean message serve it: that of its sender, and that of each consumer by its identifier
pub record IsServed (devices : Devices) (made : ℕ → Option AsMade) (m : Linked) (c : Clean) : Type 0 where
  pub sent : option_map_or (serves_message m (carried_of devices m.message.node m.sources)) (made m.message.node) false
      ≡ true
  pub taken : All (λ (k : Consumer). option_map_or
      (λ device. takes device k.rpdo (Some c.identifier) m.message.transmission
      (taken_choices device m.sinks k.node (carried_of devices m.message.node m.sources)))
      (made k.node) false ≡ true) c.consumers
