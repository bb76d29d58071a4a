-- The writes of the PDOs of a device as its vendor made it (version 3; CiA 301, PDO communication and mapping parameters):
-- what can be written of a PDO that a message uses, and what switches off one that none uses. The order is this profile's
-- own.
use Rattle.std.specs.Prelude.{ℕ, ◌+◌, ◌==◌, ◌&&◌, ◌||◌, not, pos, Bool, false, if◌then◌else◌, List, [], ◌∷◌, ◌++◌, length}
use Rattle.std.specs.Prelude.{filter_map}
use Rattle.std.specs.BTreeMap.{is_at}
use Rattle.std.specs.FinMap.{get}
use Rattle.std.specs.List.{flat_map, range_with_len}
use Rattle.std.specs.Map.{lookup}
use Rattle.std.specs.Option.{option_map_or}
use Rattle.std.specs.Ordering.{nat_cmp}
use Rattle.byteorder.specs.Endian.{little_bytes}
use Rattle.co_values.specs.Types.{octets}
use Rattle.cia301.specs.CobIds.{is_valid, no_rtr_bit, off_bit}
use Rattle.cia301.specs.PdoObjects.{mapping_object, rpdo_object, tpdo_object}
use Rattle.concise_dcf.specs.declared.write.Write.{Write}
use Rattle.node_parameters.specs.Judgement.{is_outside}
use Rattle.pdo_choices.specs.declared.clean.Clean.{Clean}
use Rattle.pdo_choices.specs.declared.consumer.Consumer.{Consumer}
use Rattle.pdo_plan.specs.declared.planned_message.PlannedMessage.{PlannedMessage}
use Rattle.pdo_plan.specs.Plan.{clean}
use Rattle.pdo_stations.specs.declared.as_made.AsMade.{AsMade}
use Rattle.pdo_stations.specs.declared.mapped.Mapped.{Mapped}
use Rattle.vendor_pdos.specs.Mappings.{writes_mapping}
use Rattle.vendor_pdos.specs.Parameters.{can_be_set, is_open, parameter_default, parameter_width}
use Rattle.pdo_links.specs.PdoWrites.{cob_write, mapping_writes, rpdo_of, taken_type, tpdo_of, write_at}

-- A PDO IS CONFIGURED with a COB-ID: it is switched off; its settings are written, and then its mapping; it is switched on
abbrev pub configured : ℕ → ℕ → List Write → List Write → List Write
configured object cob settings mapping = cob_write object (off_bit + cob) ∷ (settings ++ mapping ++ cob_write object cob ∷ [])

-- a number lies within the limits of a parameter
abbrev pub allows : AsMade → ℕ → ℕ → ℕ → Bool
allows device object sub number =
    option_map_or (λ entry. not (is_outside entry (pos number))) (get device.shape.entries (object, sub)) false

-- a parameter is written where it can be set; a time or start value of 0 besides where its limits allow it, else what
-- stands there by default stays
abbrev pub parameter_write : AsMade → ℕ → ℕ → ℕ → List Write
parameter_write device object sub number =
    if can_be_set device object sub && (sub == 2 || not (number == 0) || allows device object sub 0)
    then write_at object sub (little_bytes (octets (parameter_width sub)) number) ∷ [] else []

-- an open PDO is configured, its mapping where it can be written; of a closed one the settings alone are written
unfoldable pub pdo_writes : AsMade → ℕ → ℕ → List Write → List Mapped → List Write
pdo_writes device object cob settings mapping =
    if is_open device object
    then configured object cob settings
    (if writes_mapping device object (length mapping) then mapping_writes (mapping_object object) mapping else [])
    else settings

-- a TPDO by which a message is sent
unfoldable pub vendor_tpdo_writes : AsMade → Clean → List Write
vendor_tpdo_writes device c =
    let object = tpdo_object c.message.tpdo in
    pdo_writes device object (no_rtr_bit + c.identifier)
    (parameter_write device object 2 c.message.transmission ++ parameter_write device object 3 c.message.inhibit
    ++ parameter_write device object 5 c.message.event ++ parameter_write device object 6 c.start)
    c.mapping

-- an RPDO by which one is taken; an event time of 0 leaves the one that it has
unfoldable pub vendor_rpdo_writes : AsMade → Clean → Consumer → List Write
vendor_rpdo_writes device c consumer =
    let object = rpdo_object consumer.rpdo in
    pdo_writes device object c.identifier
    (parameter_write device object 2 (taken_type c.message.transmission)
    ++ (if consumer.event == 0 then [] else parameter_write device object 5 consumer.event))
    consumer.mapping

-- a PDO that no message uses is switched off where it is on by default, if its COB-ID can be written and allows that
abbrev pub is_switched_off : AsMade → ℕ → Bool
is_switched_off device object =
    is_open device object && is_valid (parameter_default device object 1)
    && allows device object 1 (off_bit + parameter_default device object 1)

unfoldable pub unused_writes : AsMade → ℕ → List Write
unused_writes device object =
    if is_switched_off device object then cob_write object (off_bit + parameter_default device object 1) ∷ [] else []

-- the writes of PDOs in the order of their numbers (CiA 301: 1 to 512): of each that is used, of two the first, and of
-- each that isn't
unfoldable pub each_by_number : {X : Type 0} → (X → List Write) → (ℕ → List Write) → List (ℕ × X) → List Write
each_by_number used unused pdos =
    flat_map (λ number. option_map_or used (lookup (is_at (nat_cmp number)) pdos) (unused number)) (range_with_len 1 512)

-- all TPDOs of a node, and then all its RPDOs
unfoldable pub vendor_link_writes : List PlannedMessage → AsMade → ℕ → List Write
vendor_link_writes plan device node =
    each_by_number (vendor_tpdo_writes device) (λ number. unused_writes device (tpdo_object number))
    (filter_map (tpdo_of node) (clean plan))
    ++ each_by_number (λ taken. vendor_rpdo_writes device taken.0 taken.1)
    (λ number. unused_writes device (rpdo_object number)) (filter_map (rpdo_of node) (clean plan))
