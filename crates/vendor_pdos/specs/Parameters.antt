-- The communication parameters of a PDO (CiA 301) as a device has them: which can be set, and which serve as they stand.
use Rattle.std.specs.Prelude.{ℕ, ◌==◌, ◌&&◌, ◌||◌, Bool, false, if◌then◌else◌}
use Rattle.std.specs.FinMap.{get}
use Rattle.std.specs.Option.{option_map_or}
use Rattle.cia301.specs.TransmissionTypes.{is_event_driven, is_synchronous, type_of_byte}
use Rattle.co_dict.specs.declared.entry.Entry.{Entry}
use Rattle.co_dict.specs.Values.{number_at}
use Rattle.co_values.specs.declared.form.Width.{Width}
use Rattle.co_values.specs.declared.form.Width.TheVariants.{Bits8, Bits16, Bits32}
use Rattle.co_values.specs.Types.{octets}
use Rattle.pdo_stations.specs.Devices.{is_unsigned, takes_unsigned}
use Rattle.pdo_stations.specs.declared.as_made.AsMade.{AsMade}

-- a device has an UNSIGNEDn of a width at a place
abbrev pub has_at : AsMade → Width → ℕ × ℕ → Bool
has_at device width place = option_map_or (λ (e : Entry). is_unsigned e.kind width) (get device.shape.entries place) false

-- and it can be written
abbrev pub takes_at : AsMade → Width → ℕ × ℕ → Bool
takes_at device width place = option_map_or (takes_unsigned width) (get device.shape.entries place) false

-- the width of a communication parameter: the COB-ID (sub 1) has 32 bits, inhibit time (3) and event timer (5) have 16,
-- transmission type (2) and SYNC start value (6) have 8
abbrev pub parameter_width : ℕ → Width
parameter_width sub = if sub == 1 then Bits32 else if sub == 3 || sub == 5 then Bits16 else Bits8

abbrev pub has_parameter : AsMade → ℕ → ℕ → Bool
has_parameter device object sub = has_at device (parameter_width sub) (object, sub)

abbrev pub takes_parameter : AsMade → ℕ → ℕ → Bool
takes_parameter device object sub = takes_at device (parameter_width sub) (object, sub)

-- what stands at a parameter by default
abbrev pub parameter_default : AsMade → ℕ → ℕ → ℕ
parameter_default device object sub = number_at (octets (parameter_width sub)) device.defaults (object, sub)

-- A PDO IS OPEN where its COB-ID can be written; else it is closed
abbrev pub is_open : AsMade → ℕ → Bool
is_open device object = takes_parameter device object 1

-- A PARAMETER CAN BE SET where it is writable; of a closed PDO these are transmission type and event timer alone
abbrev pub can_be_set : AsMade → ℕ → ℕ → Bool
can_be_set device object sub = takes_parameter device object sub && (is_open device object || sub == 2 || sub == 5)

-- a number serves as a time or as SYNC start value: it can be set, or it stands there by default, or it is 0 and there is
-- no such parameter
unfoldable pub number_serves : AsMade → ℕ → ℕ → ℕ → Bool
number_serves device object sub number =
    can_be_set device object sub
    || (if has_parameter device object sub then parameter_default device object sub == number else number == 0)

-- a TPDO of one transmission type sends as one of the other: each is event-driven, or they are equal
abbrev pub sends_alike : ℕ → ℕ → Bool
sends_alike kind other =
    (is_event_driven (type_of_byte kind) && is_event_driven (type_of_byte other)) || kind == other

-- an RPDO of the one takes as messages of the other are sent: with the SYNC, or else at once
abbrev pub takes_alike : ℕ → ℕ → Bool
takes_alike kind other = if is_synchronous (type_of_byte kind) then is_synchronous (type_of_byte other)
    else is_event_driven (type_of_byte other)

-- a transmission type serves: it can be set, or one like it stands there by default
unfoldable pub type_serves : (ℕ → ℕ → Bool) → AsMade → ℕ → ℕ → Bool
type_serves is_alike device object kind =
    can_be_set device object 2 || (has_parameter device object 2 && is_alike kind (parameter_default device object 2))
