-- The transmission type of a PDO (CiA 301).
use Rattle.std.specs.Prelude.{ℕ, nat_le, ◌==◌, Bool, true, false, if◌then◌else◌}
use Rattle.cia301.specs.declared.transmission_type.TransmissionType.{TransmissionType}
use Rattle.cia301.specs.declared.transmission_type.TransmissionType.TheVariants.{Acyclic, Cyclic, Reserved}
use Rattle.cia301.specs.declared.transmission_type.TransmissionType.TheVariants.{OnRequest, EventDriven}

-- THE TYPE OF A BYTE: 0 is acyclic synchronous, n from 1 to 240 cyclic synchronous; 241 to 251 are reserved, 252 and
-- 253 are on remote request alone, 254 and 255 are event-driven
unfoldable pub type_of_byte : ℕ → TransmissionType
type_of_byte byte =
    if byte == 0 then Acyclic
    else if nat_le byte 240 then Cyclic byte
    else if nat_le byte 251 then Reserved
    else if nat_le byte 253 then OnRequest
    else EventDriven

-- it goes by SYNC
abbrev pub is_synchronous : TransmissionType → Bool
is_synchronous Acyclic = true
is_synchronous (Cyclic n) = true
is_synchronous other = false

abbrev pub is_reserved : TransmissionType → Bool
is_reserved Reserved = true
is_reserved other = false

abbrev pub is_on_request : TransmissionType → Bool
is_on_request OnRequest = true
is_on_request other = false

abbrev pub is_event_driven : TransmissionType → Bool
is_event_driven EventDriven = true
is_event_driven other = false
