-- The faults of a message, by its sources with their widths and its consumers.
use Rattle.std.proofs.Common.{◌≡◌, ℕ, ◌==◌, ◌&&◌, not, nat_lt, Bool, false, List, [], ◌∷◌, length, Option, is_none, is_some, ap, ◌∙◌}
use Rattle.std.specs.List.{list_any}
use Rattle.std.specs.Option.{option_map_or}
use Rattle.std.proofs.lemmas.List.{length-map}
use Rattle.cia301.specs.TransmissionTypes.{is_reserved, type_of_byte}
use Rattle.project_messages.specs.declared.linked.Linked.{Linked}
use Rattle.pdo_stations.specs.declared.carried.Carried.{Carried}
use Rattle.pdo_plan.specs.declared.message_fault.MessageFault.{MessageFault}
use Rattle.pdo_plan.specs.declared.message_fault.MessageFault.TheVariants.{NoObjects, TpdoTaken, TooManyBits}
use Rattle.pdo_plan.specs.declared.message_fault.MessageFault.TheVariants.{NotMappable, Mismatched, NoRpdo, NoDummy}
use Rattle.pdo_plan.specs.declared.message_fault.MessageFault.TheVariants.{BadIdentifier, NoIdentifier, ReservedType}
use Rattle.pdo_stations.specs.Devices.{Devices}
use Rattle.pdo_stations.specs.Carried.{carried_by, carried_of, total_bits, lacks_some}
use Rattle.pdo_plan.specs.Carried.{has_objects_by, mismatches}
use Rattle.pdo_choices.specs.Had.{Had}
use Rattle.pdo_choices.specs.Rpdos.{rpdo_by, rpdo_for}
use Rattle.pdo_choices.specs.Identifiers.{identifier_for, sought_identifier}
use Rattle.pdo_plan.specs.Plan.{has_named_objects, has_unmappable}
use Rattle.pdo_choices.specs.Consumers.{consumers_of}
use Rattle.pdo_plan.specs.Plan.{faults_that_hold, faults, serves_message}
use Rattle.pdo_plan.proofs.CarriedLemmas.{bits_same, lacks_same, mismatch_same}

-- the faults as they are tested
abbrev pub tested : Had → Devices → Linked → List Carried → Option ℕ → List ℕ → Bool → List MessageFault
tested had devices m cs identifier consumers has =
    faults_that_hold ((not (has_objects_by devices m cs), NoObjects)
    ∷ (had.tpdo m.message.node m.message.tpdo, TpdoTaken)
    ∷ (nat_lt 64 (total_bits cs), TooManyBits)
    ∷ (has_unmappable devices m, NotMappable)
    ∷ (list_any (mismatches devices cs) m.sinks, Mismatched)
    ∷ (list_any (λ node. is_none (rpdo_by had devices m cs identifier node)) consumers, NoRpdo)
    ∷ (list_any (λ node. lacks_some devices m.sinks node cs) consumers, NoDummy)
    ∷ (not (m.message.cob == 0) && not has, BadIdentifier)
    ∷ (m.message.cob == 0 && not has, NoIdentifier)
    ∷ (is_reserved (type_of_byte m.message.transmission), ReservedType) ∷ [])

module _ (had : Had) (devices : Devices) (m : Linked) where
  abbrev sources : List Carried
  sources = carried_of devices m.message.node m.sources

  counted : length sources ≡ length m.sources
  counted = length-map m.sources (carried_by devices m.message.node)

  tested_all : tested had devices m sources (sought_identifier had devices m.message) (consumers_of m.sinks)
      (is_some (identifier_for had devices m.message)) ≡ faults had devices m
  unfolding faults rpdo_for
  tested_all =
      λ i. faults_that_hold ((
        not (option_map_or (λ made. option_map_or (serves_message m sources) (made m.message.node) false)
            devices.vendor (has_named_objects devices m (counted i))),
        NoObjects,
      )
      ∷ (had.tpdo m.message.node m.message.tpdo, TpdoTaken)
      ∷ (nat_lt 64 (bits_same devices m.message.node m.sources i), TooManyBits)
      ∷ (has_unmappable devices m, NotMappable)
      ∷ (list_any (λ sink. mismatch_same devices m.message.node m.sources sink i) m.sinks, Mismatched)
      ∷ (
        list_any (λ node. is_none (rpdo_by had devices m sources (sought_identifier had devices m.message) node))
            (consumers_of m.sinks),
        NoRpdo,
      )
      ∷ (list_any (λ node. lacks_same devices m.message.node m.sinks node m.sources i) (consumers_of m.sinks), NoDummy)
      ∷ (not (m.message.cob == 0) && not (is_some (identifier_for had devices m.message)), BadIdentifier)
      ∷ (m.message.cob == 0 && not (is_some (identifier_for had devices m.message)), NoIdentifier)
      ∷ (is_reserved (type_of_byte m.message.transmission), ReservedType) ∷ [])

  pub tested_are : (cs : List Carried) (identifier : Option ℕ) (consumers : List ℕ) (has : Bool)
      → cs ≡ carried_of devices m.message.node m.sources → identifier ≡ sought_identifier had devices m.message
      → consumers ≡ consumers_of m.sinks → has ≡ is_some (identifier_for had devices m.message)
      → tested had devices m cs identifier consumers has ≡ faults had devices m
  tested_are cs identifier consumers has carried sought nodes own =
      ap (λ x. tested had devices m x identifier consumers has) carried
      ∙ ap (λ x. tested had devices m sources x consumers has) sought
      ∙ ap (λ x. tested had devices m sources (sought_identifier had devices m.message) x has) nodes
      ∙ ap (λ x. tested had devices m sources (sought_identifier had devices m.message) (consumers_of m.sinks) x) own
      ∙ tested_all
