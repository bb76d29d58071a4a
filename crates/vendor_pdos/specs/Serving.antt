-- Which PDO of a device, as its vendor made it, serves a message (CiA 301; what serves is this profile's own).
use Rattle.std.specs.Prelude.{ℕ, ◌&&◌, ◌||◌, Bool, false, is_some, Option}
use Rattle.std.specs.Option.{option_map_or}
use Rattle.cia301.specs.PdoObjects.{mapping_object, rpdo_object, tpdo_object}
use Rattle.co_values.specs.declared.form.Width.TheVariants.{Bits8}
use Rattle.project_messages.specs.declared.message.Message.{Message}
use Rattle.pdo_stations.specs.declared.as_made.AsMade.{AsMade}
use Rattle.vendor_pdos.specs.Fixed.{fixed_identifier, has_fixed}
use Rattle.vendor_pdos.specs.Mappings.{Wanted, mapping_serves}
use Rattle.vendor_pdos.specs.Parameters.{has_at, has_parameter, is_open, number_serves, sends_alike, takes_alike}
use Rattle.vendor_pdos.specs.Parameters.{type_serves}

-- a PDO is there: its COB-ID, and the count of its mapping
abbrev pub has_objects_of : AsMade → ℕ → Bool
has_objects_of device object = has_parameter device object 1 && has_at device Bits8 (mapping_object object, 0)

-- A TPDO SERVES its message with a SYNC start value: it is there, is open or has a fixed identifier, and its mapping, its
-- type, its times and its start value serve
unfoldable pub sends : AsMade → Message → ℕ → Wanted → Bool
sends device m start wanted =
    let object = tpdo_object m.tpdo in
    has_objects_of device object && (is_open device object || is_some (fixed_identifier device object))
    && mapping_serves device object wanted && type_serves sends_alike device object m.transmission
    && number_serves device object 3 m.inhibit && number_serves device object 5 m.event
    && number_serves device object 6 start

-- AN RPDO SERVES a message of a transmission type: it is there, is open or has the identifier of the message as its fixed
-- one, and its mapping and its type serve
unfoldable pub takes : AsMade → ℕ → Option ℕ → ℕ → Wanted → Bool
takes device number identifier transmission wanted =
    let object = rpdo_object number in
    has_objects_of device object
    && (is_open device object || option_map_or (has_fixed device object) identifier false)
    && mapping_serves device object wanted && type_serves takes_alike device object transmission
