-- The identifiers that vendors fixed: those of PDOs whose COB-ID can't be written and that are on by default.
use Rattle.std.specs.Prelude.{ℕ, ◌==◌, ◌&&◌, ◌||◌, Bool, false, not, if◌then◌else◌, Option, Some, None, option_and_then}
use Rattle.std.specs.List.{list_any, range_with_len}
use Rattle.std.specs.Option.{option_map_or}
use Rattle.cia301.specs.CobIds.{identifier_in, is_of_base_frames, is_valid}
use Rattle.cia301.specs.PdoObjects.{rpdo_object, tpdo_object}
use Rattle.pdo_stations.specs.Devices.{Devices}
use Rattle.pdo_stations.specs.declared.as_made.AsMade.{AsMade}
use Rattle.vendor_pdos.specs.Parameters.{has_parameter, is_open, parameter_default}

-- a PDO is closed, and by default on with an identifier of 11 bits
abbrev pub is_fixed_on : AsMade → ℕ → Bool
is_fixed_on device object =
    has_parameter device object 1 && not (is_open device object)
    && is_valid (parameter_default device object 1) && is_of_base_frames (parameter_default device object 1)

-- THE FIXED IDENTIFIER of a PDO
unfoldable pub fixed_identifier : AsMade → ℕ → Option ℕ
fixed_identifier device object =
    if is_fixed_on device object then Some (identifier_in (parameter_default device object 1)) else None

-- a PDO has this fixed identifier
abbrev pub has_fixed : AsMade → ℕ → ℕ → Bool
has_fixed device object id = option_map_or (λ fixed. fixed == id) (fixed_identifier device object) false

-- and so has some PDO of the device
unfoldable pub fixes : AsMade → ℕ → Bool
fixes device id =
    list_any (λ number. has_fixed device (tpdo_object number) id || has_fixed device (rpdo_object number) id)
    (range_with_len 1 512)

-- the fixed identifier of a PDO of a node, in version 3
abbrev pub fixed_at : Devices → ℕ → ℕ → Option ℕ
fixed_at devices node object =
    option_and_then (λ made. option_and_then (λ device. fixed_identifier device object) (made node)) devices.vendor

-- AN IDENTIFIER IS WITHHELD from automatic choice where a PDO of a node, 1 to 127, has it as its fixed one
unfoldable pub is_withheld : Devices → ℕ → Bool
is_withheld devices id =
    option_map_or
    (λ made. list_any (λ node. option_map_or (λ device. fixes device id) (made node) false) (range_with_len 1 127))
    devices.vendor false
