-- The identifier of a message (COB-ID; the pool of automatic ones is this profile's own).
use Rattle.std.specs.Prelude.{ℕ, ◌+◌, ◌*◌, ◌==◌, Bool, not, ◌&&◌, ◌||◌, nat_lt, nat_le, if◌then◌else◌, Option, Some}
use Rattle.std.specs.Prelude.{None}
use Rattle.std.specs.Option.{option_map_or, option_or}
use Rattle.cia301.specs.CobIds.{is_restricted}
use Rattle.project_messages.specs.declared.message.Message.{Message}
use Rattle.pdo_stations.specs.Devices.{Devices}
use Rattle.vendor_pdos.specs.Fixed.{fixed_at}
use Rattle.cia301.specs.PdoObjects.{tpdo_object}
use Rattle.pdo_choices.specs.Least.{least_free}
use Rattle.pdo_choices.specs.Had.{Had}

-- the predefined identifier of TPDO 1 to 4 (CiA 301, predefined connection set)
abbrev pub predefined_identifier : ℕ → ℕ → ℕ
predefined_identifier node tpdo = 0x80 + 0x100 * tpdo + node

-- an explicit identifier: at least 181h, not restricted and had by no clean message before
abbrev pub explicit : Had → ℕ → Option ℕ
explicit had cob = if nat_lt cob 0x181 || is_restricted cob || had.identifier cob then None else Some cob

-- one that may be chosen: no clean message has it, and no closed PDO waits for it
abbrev pub is_free_identifier : Had → ℕ → Bool
is_free_identifier had id = not (had.identifier id) && not (had.withheld.identifier id)

-- an automatic one: the predefined one where it is free, else the least free of 681h to 6DFh
abbrev pub automatic : Had → ℕ → ℕ → Option ℕ
automatic had node tpdo =
    if nat_le tpdo 4 && is_free_identifier had (predefined_identifier node tpdo)
    then Some (predefined_identifier node tpdo)
    else least_free (is_free_identifier had) 0x681 95

-- the fixed identifier of a TPDO, which the message has to name or to leave open
abbrev pub fixed_for : Had → ℕ → ℕ → Option ℕ
fixed_for had cob fixed = if cob == 0 || cob == fixed then explicit had fixed else None

-- THE IDENTIFIER of a message, where it can have one: the fixed one of its TPDO, or else its own, or else an automatic one
unfoldable pub identifier_for : Had → Devices → Message → Option ℕ
identifier_for had devices m = option_map_or (fixed_for had m.cob) (fixed_at devices m.node (tpdo_object m.tpdo))
    (if m.cob == 0 then automatic had m.node m.tpdo else explicit had m.cob)

-- the identifier by which its receivers are sought, though it may be one that it can't have
abbrev pub sought_identifier : Had → Devices → Message → Option ℕ
sought_identifier had devices m = option_or (fixed_at devices m.node (tpdo_object m.tpdo))
    (if m.cob == 0 then automatic had m.node m.tpdo else Some m.cob)
