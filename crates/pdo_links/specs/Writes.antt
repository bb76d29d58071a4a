-- The writes that a plan gives a node: its TPDOs and RPDOs (CiA 301, PDO communication and mapping parameters). The
-- order is this profile's own.
use Rattle.std.specs.Prelude.{ℕ, ◌+◌, false, Bool, if◌then◌else◌, List, [], ◌∷◌, ◌++◌, filter_map}
use Rattle.std.specs.BTreeMap.{is_at}
use Rattle.std.specs.List.{flat_map, range_with_len}
use Rattle.std.specs.Map.{lookup}
use Rattle.std.specs.Option.{option_map_or}
use Rattle.std.specs.Ordering.{nat_cmp}
use Rattle.byteorder.specs.Endian.{little_bytes}
use Rattle.co_values.specs.declared.form.Width.TheVariants.{Bits8, Bits16}
use Rattle.cia301.specs.CobIds.{no_rtr_bit, off_bit}
use Rattle.cia301.specs.PdoObjects.{mapping_object, rpdo_object, tpdo_object}
use Rattle.concise_dcf.specs.declared.write.Write.{Write}
use Rattle.node_parameters.specs.Params.{Texts}
use Rattle.node_parameters.specs.Parameters.{parameter_writes}
use Rattle.eds_device.specs.Entries.{entry_at}
use Rattle.eds_device.specs.Sheets.{Sheet}
use Rattle.pdo_choices.specs.declared.clean.Clean.{Clean}
use Rattle.pdo_choices.specs.declared.consumer.Consumer.{Consumer}
use Rattle.pdo_plan.specs.declared.planned_message.PlannedMessage.{PlannedMessage}
use Rattle.pdo_plan.specs.Plan.{clean}
use Rattle.pdo_stations.specs.Devices.{as_made, takes_unsigned}
use Rattle.pdo_links.specs.PdoWrites.{cob_write, mapping_writes, rpdo_of, taken_type, tpdo_of, write_at}
use Rattle.pdo_links.specs.VendorWrites.{vendor_link_writes}

-- a time is written where the entry is there, UNSIGNED16 and writable
abbrev pub time_write : Sheet → ℕ → ℕ → ℕ → ℕ → List Write
time_write sheet node object sub time =
    if option_map_or (takes_unsigned Bits16) (entry_at sheet node object sub) false
    then write_at object sub (little_bytes 2 time) ∷ [] else []

-- and so is the SYNC start value, where its entry is UNSIGNED8
abbrev pub start_write : Sheet → ℕ → ℕ → ℕ → List Write
start_write sheet node object start =
    if option_map_or (takes_unsigned Bits8) (entry_at sheet node object 6) false
    then write_at object 6 (start ∷ []) ∷ [] else []

-- a TPDO: it is switched off; transmission type, inhibit time, event timer and SYNC start value; the mapping; it is
-- switched on
unfoldable pub tpdo_writes : Sheet → ℕ → Clean → List Write
tpdo_writes sheet node c =
    let object = tpdo_object c.message.tpdo in
    cob_write object (off_bit + (no_rtr_bit + c.identifier))
    ∷ write_at object 2 (c.message.transmission ∷ [])
    ∷ (time_write sheet node object 3 c.message.inhibit ++ time_write sheet node object 5 c.message.event
    ++ start_write sheet node object c.start ++ mapping_writes (mapping_object object) c.mapping
    ++ cob_write object (no_rtr_bit + c.identifier) ∷ [])

-- an RPDO likewise
unfoldable pub rpdo_writes : Clean → Consumer → List Write
rpdo_writes c consumer =
    let object = rpdo_object consumer.rpdo in
    cob_write object (off_bit + c.identifier)
    ∷ write_at object 2 (taken_type c.message.transmission ∷ [])
    ∷ (mapping_writes (mapping_object object) consumer.mapping
    ++ cob_write object c.identifier ∷ [])

-- the writes of the PDO of a number, where there is one; of two the first counts
abbrev pub at_number : {X : Type 0} → (X → List Write) → List (ℕ × X) → ℕ → List Write
at_number pdo_writes pdos number = option_map_or pdo_writes (lookup (is_at (nat_cmp number)) pdos) []

-- the writes of PDOs in the order of their numbers (CiA 301: 1 to 512)
unfoldable pub by_number : {X : Type 0} → (X → List Write) → List (ℕ × X) → List Write
by_number pdo_writes pdos = flat_map (at_number pdo_writes pdos) (range_with_len 1 512)

-- all of a node's TPDOs, and then all of its RPDOs
unfoldable pub set_link_writes : List PlannedMessage → Sheet → ℕ → List Write
set_link_writes plan sheet node =
    by_number (tpdo_writes sheet node) (filter_map (tpdo_of node) (clean plan))
    ++ by_number (λ taken. rpdo_writes taken.0 taken.1) (filter_map (rpdo_of node) (clean plan))

-- the same by the rules of version 3 or not
abbrev pub link_writes : Bool → List PlannedMessage → Sheet → ℕ → List Write
link_writes is_three plan sheet node =
    if is_three then vendor_link_writes plan (as_made sheet node) node else set_link_writes plan sheet node

-- THE WRITES of a node: those of its parameters, and then those of its PDOs
unfoldable pub node_writes : Bool → List PlannedMessage → Texts → Sheet → ℕ → List Write
node_writes is_three plan params sheet node = parameter_writes sheet params node ++ link_writes is_three plan sheet node
