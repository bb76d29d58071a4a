-- What is found of the PDOs of a device as its vendor made it, beside what a plan makes of them (version 3; this profile's
-- own).
use Rattle.std.specs.Prelude.{ℕ, ◌==◌, ◌&&◌, ◌||◌, not, pos, Bool, false, if◌then◌else◌, List, [], ◌∷◌, Option, Some}
use Rattle.std.specs.Prelude.{None}
use Rattle.std.specs.FinMap.{get}
use Rattle.std.specs.List.{flat_map, list_any, range_with_len}
use Rattle.std.specs.Option.{option_map_or}
use Rattle.cia301.specs.Limits.{is_pdo_number}
use Rattle.cia301.specs.CobIds.{identifier_in, is_of_base_frames, is_restricted, is_valid}
use Rattle.cia301.specs.PdoObjects.{mapping_object, rpdo_object, tpdo_object}
use Rattle.co_dict.specs.Values.{number_at}
use Rattle.co_values.specs.declared.form.Width.TheVariants.{Bits8}
use Rattle.concise_dcf.specs.declared.write.Write.{Write}
use Rattle.concise_dcf.specs.Writes.{place_of}
use Rattle.byteorder.specs.Endian.{little_number}
use Rattle.node_parameters.specs.Judgement.{is_outside}
use Rattle.pdo_choices.specs.declared.clean.Clean.{Clean}
use Rattle.pdo_plan.specs.declared.planned_message.PlannedMessage.{PlannedMessage}
use Rattle.pdo_plan.specs.Plan.{clean_of}
use Rattle.pdo_choices.specs.Had.{is_at_node}
use Rattle.pdo_stations.specs.declared.as_made.AsMade.{AsMade}
use Rattle.vendor_pdos.specs.Parameters.{has_at, has_parameter, number_serves, parameter_default}
use Rattle.pdo_links.specs.VendorWrites.{is_switched_off}

-- THE LASTING IDENTIFIER of a PDO: by default it is on with this one, of 11 bits, and isn't switched off
unfoldable pub lasting_identifier : AsMade → ℕ → Option ℕ
lasting_identifier device object =
    let cob = parameter_default device object 1 in
    if has_parameter device object 1 && is_valid cob && is_of_base_frames cob && not (is_switched_off device object)
    then Some (identifier_in cob) else None

-- a message is clean and passes a test
abbrev pub of_clean : (Clean → Bool) → PlannedMessage → Bool
of_clean test m = option_map_or test (clean_of m.outcome) false

-- a node sends one of the messages by a TPDO, or takes one by an RPDO
abbrev pub uses_tpdo : List PlannedMessage → ℕ → ℕ → Bool
uses_tpdo plan node number = list_any (of_clean (λ c. (c.message.node == node) && (c.message.tpdo == number))) plan

abbrev pub uses_rpdo : List PlannedMessage → ℕ → ℕ → Bool
uses_rpdo plan node number = list_any (of_clean (λ c. list_any (is_at_node node number) c.consumers)) plan

-- a TPDO sends by default and goes on: it has a lasting identifier that isn't restricted, and maps something
unfoldable pub sends_on : AsMade → ℕ → Bool
sends_on device object =
    option_map_or (λ id. not (is_restricted id)) (lasting_identifier device object) false
    && has_at device Bits8 (mapping_object object, 0)
    && not (number_at 1 device.defaults (mapping_object object, 0) == 0)

-- the number of a TPDO that sends beside the plan
abbrev pub unplanned_tpdo : List PlannedMessage → AsMade → ℕ → ℕ → List ℕ
unplanned_tpdo plan device node number =
    if not (uses_tpdo plan node number) && sends_on device (tpdo_object number) then number ∷ [] else []

-- THE UNPLANNED TPDOS of a node
unfoldable pub unplanned_tpdos : List PlannedMessage → AsMade → ℕ → List ℕ
unplanned_tpdos plan device node = flat_map (unplanned_tpdo plan device node) (range_with_len 1 512)

-- an identifier is that of a clean message of another node
abbrev pub is_sent_to : List PlannedMessage → ℕ → ℕ → Bool
is_sent_to plan node id = list_any (of_clean (λ c. (c.identifier == id) && not (c.message.node == node))) plan

-- the number of an RPDO that takes a message that isn't meant for it
abbrev pub unplanned_rpdo : List PlannedMessage → AsMade → ℕ → ℕ → List ℕ
unplanned_rpdo plan device node number =
    if not (uses_rpdo plan node number)
    && option_map_or (is_sent_to plan node) (lasting_identifier device (rpdo_object number)) false
    then number ∷ [] else []

-- THE UNPLANNED RPDOS of a node
unfoldable pub unplanned_rpdos : List PlannedMessage → AsMade → ℕ → List ℕ
unplanned_rpdos plan device node = flat_map (unplanned_rpdo plan device node) (range_with_len 1 512)

-- the number that is written to a PDO, the lowest byte first, lies outside the limits of its entry
abbrev pub is_beside_limits : AsMade → Write → Bool
is_beside_limits device w =
    option_map_or (λ entry. is_outside entry (pos (little_number 8 w.bytes))) (get device.shape.entries (place_of w)) false

-- the place of such a write
abbrev pub refused_place : AsMade → Write → List (ℕ × ℕ)
refused_place device w = if is_beside_limits device w then place_of w ∷ [] else []

-- THE PLACES of those of a node's writes that the device refuses by their limits
unfoldable pub refused_places : AsMade → List Write → List (ℕ × ℕ)
refused_places device ws = flat_map (refused_place device) ws

-- an RPDO can have an event time in milliseconds; 0 asks for none
abbrev pub can_have_event : AsMade → ℕ → ℕ → Bool
can_have_event device rpdo event =
    event == 0 || (is_pdo_number rpdo && number_serves device (rpdo_object rpdo) 5 event)
