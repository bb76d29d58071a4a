-- The values of a node that its diagnostics want once it is configured, and no others.
use Rattle.std.specs.Prelude.{ℕ, ◌+◌, ◌==◌, ◌&&◌, ◌||◌, Bool, if◌then◌else◌, List, [], ◌∷◌, filter, Option, None}
use Rattle.std.specs.Prelude.{is_some, option_and_then}
use Rattle.std.specs.FinMap.{from_entries, insert}
use Rattle.std.specs.List.{list_any}
use Rattle.std.specs.Option.{option_map_or, option_or}
use Rattle.std.specs.Result.{result_ok}
use Rattle.byteorder.specs.Endian.{little_bytes}
use Rattle.base.specs.Ranges.{is_between}
use Rattle.cia301.specs.CobIds.{no_rtr_bit}
use Rattle.co_dict.specs.Values.{Values}
use Rattle.node_parameters.specs.Judgement.{parameter_bytes}
use Rattle.node_parameters.specs.Parameters.{parameter_text}
use Rattle.node_parameters.specs.Params.{Texts}
use Rattle.eds_device.specs.Entries.{default_at, entry_at, given_at}
use Rattle.eds_device.specs.Places.{pairs_of}
use Rattle.eds_device.specs.Sheets.{Sheet}
use Rattle.cia301.specs.PdoObjects.{is_communication_object, is_of_tpdos, tpdo_object}
use Rattle.pdo_choices.specs.declared.clean.Clean.{Clean}
use Rattle.pdo_plan.specs.declared.planned_message.PlannedMessage.{PlannedMessage}
use Rattle.pdo_plan.specs.Plan.{clean_of}
use Rattle.concise_dcf.specs.Writes.{place_of}
use Rattle.pdo_links.specs.PdoWrites.{tpdo_of}
use Rattle.pdo_links.specs.VendorWrites.{vendor_link_writes}
use Rattle.pdo_stations.specs.declared.as_made.AsMade.{AsMade}
use Rattle.pdo_stations.specs.Devices.{as_made}
use Rattle.project_plan.specs.Values.{after_writes}
use Rattle.project_plan.specs.Network.{Member}
use Rattle.cia301.specs.Limits.{is_pdo_number}

-- the COB-ID of a TPDO: sub-index 1 of its communication object (1800h to 19FFh)
abbrev pub is_tpdo_cob_id : ℕ × ℕ → Bool
is_tpdo_cob_id place = (is_of_tpdos place.0 && is_communication_object place.0) && place.1 == 1

-- whether the value of an entry is wanted: the COB-ID of a TPDO, a heartbeat consumer (1016h), the heartbeat time
-- (1017h) and the synchronous counter overflow value (1019h)
abbrev pub is_wanted : ℕ × ℕ → Bool
is_wanted place = is_tpdo_cob_id place || (is_between 0x1016 0x1017 place.0 || place.0 == 0x1019)

-- what the parameter of an entry gives it, where it has a text and no fault
abbrev pub parameter_value : Sheet → Texts → ℕ → ℕ × ℕ → Option (List ℕ)
parameter_value sheet params node place =
    option_and_then (λ text. result_ok (parameter_bytes (entry_at sheet node place.0 place.1) text node))
    (parameter_text sheet.sections params place)

-- and else its default
abbrev pub value_given : Sheet → Texts → ℕ → ℕ × ℕ → Option (List ℕ)
value_given sheet params node place =
    option_or (parameter_value sheet params node place) (default_at sheet node place.0 place.1)

abbrev pub wanted_value : Sheet → Texts → ℕ → ℕ × ℕ → Option (List ℕ)
wanted_value sheet params node place = if is_wanted place then value_given sheet params node place else None

-- what is given to all entries whose value is wanted
unfoldable pub values_given : Sheet → Texts → ℕ → Values
values_given sheet params node = from_entries (given_at (wanted_value sheet params node) (pairs_of sheet.sections))

-- the COB-ID with which a message switches its sender's TPDO on
abbrev pub cob_id_of : Clean → List ℕ
cob_id_of c = little_bytes 4 (no_rtr_bit + c.identifier)

-- values, and over them the COB-ID of a TPDO by its number (CiA 301: 1 to 512)
abbrev pub with_tpdo : Values → ℕ × Clean → Values
with_tpdo values tpdo =
    if is_pdo_number tpdo.0 then insert values (tpdo_object tpdo.0, 1) (cob_id_of tpdo.1) else values

-- values, and over them those of the TPDOs by which a node sends messages: of two of a number the first counts
abbrev pub with_tpdos : Values → ℕ → List PlannedMessage → Values
with_tpdos values node [] = values
with_tpdos values node (m ∷ ms) = option_map_or (with_tpdo (with_tpdos values node ms))
    (option_and_then (tpdo_of node) (clean_of m.outcome)) (with_tpdos values node ms)

-- in version 3 over them the COB-IDs of TPDOs among what the plan writes to the PDOs of a node
abbrev pub with_vendor_tpdos : Values → List PlannedMessage → AsMade → ℕ → Values
with_vendor_tpdos values plan device node =
    after_writes values (filter (λ w. is_tpdo_cob_id (place_of w)) (vendor_link_writes plan device node))

-- a node sends a message of a plan, if that is clean
abbrev pub is_sent_by : ℕ → PlannedMessage → Bool
is_sent_by node m = is_some (option_and_then (tpdo_of node) (clean_of m.outcome))

-- a node sends one of these
abbrev pub sends : List PlannedMessage → ℕ → Bool
sends plan node = list_any (is_sent_by node) plan

-- the values that are wanted of a node once it is configured by a plan, by the rules of version 3 or not
abbrev pub wanted_by : Bool → List PlannedMessage → ℕ × Member → Values
wanted_by is_three plan e =
    let given = values_given e.1.sheet e.1.node.params e.0 in
    if is_three then with_vendor_tpdos given plan (as_made e.1.sheet e.0) e.0 else with_tpdos given e.0 plan
