-- The RPDO by which a node takes a message (CiA 301; the order in which one is sought is this profile's own).
use Rattle.std.specs.Prelude.{ℕ, Bool, not, ◌&&◌, if◌then◌else◌, List, length, Option, Some, None, option_and_then}
use Rattle.std.specs.Option.{option_map_or, option_or}
use Rattle.project_messages.specs.declared.linked.Linked.{Linked}
use Rattle.pdo_stations.specs.declared.as_made.AsMade.{AsMade}
use Rattle.pdo_stations.specs.declared.carried.Carried.{Carried}
use Rattle.pdo_stations.specs.Carried.{carried_of}
use Rattle.pdo_stations.specs.Devices.{Devices, has_pdo}
use Rattle.vendor_pdos.specs.Choices.{taken_choices}
use Rattle.vendor_pdos.specs.Parameters.{is_open}
use Rattle.vendor_pdos.specs.Serving.{takes}
use Rattle.cia301.specs.PdoObjects.{rpdo_object}
use Rattle.pdo_choices.specs.Least.{least_free}
use Rattle.pdo_choices.specs.Had.{Had}
use Rattle.pdo_choices.specs.Receives.{rpdo_named}
use Rattle.pdo_choices.specs.Identifiers.{sought_identifier}

-- an RPDO of a node that no clean message has and that has what its writes name
abbrev pub is_free_rpdo : Had → Devices → ℕ → ℕ → ℕ → Bool
is_free_rpdo had devices node count number = not (had.rpdo node number)
    && has_pdo devices node (rpdo_object number) count

-- in version 3 one that no clean message has and that serves the message, whose identifier would be this
abbrev pub can_take : Had → AsMade → Linked → List Carried → Option ℕ → ℕ → ℕ → Bool
can_take had device m cs identifier node number = not (had.rpdo node number)
    && takes device number identifier m.message.transmission (taken_choices device m.sinks node cs)

-- and that no receive names
abbrev pub may_take : Had → AsMade → Linked → List Carried → Option ℕ → ℕ → ℕ → Bool
may_take had device m cs identifier node number = not (had.withheld.rpdo node number)
    && can_take had device m cs identifier node number

-- there the one that a receive of the message names, or else the least closed one, or else the least
unfoldable pub vendor_rpdo : Had → AsMade → Linked → List Carried → Option ℕ → ℕ → Option ℕ
vendor_rpdo had device m cs identifier node =
    let may_be = may_take had device m cs identifier node in
    option_map_or (λ named. if can_take had device m cs identifier node named then Some named else None)
    (rpdo_named m node)
    (option_or (least_free (λ number. not (is_open device (rpdo_object number)) && may_be number) 1 512)
    (least_free may_be 1 512))

-- the RPDO of a node for a message with these sources, whose identifier would be this (CiA 301: RPDO 1 to 512)
abbrev pub rpdo_by : Had → Devices → Linked → List Carried → Option ℕ → ℕ → Option ℕ
rpdo_by had devices m cs identifier node =
    option_map_or
    (λ made. option_and_then (λ device. vendor_rpdo had device m cs identifier node) (made node))
    devices.vendor (least_free (is_free_rpdo had devices node (length cs)) 1 512)

-- THE RPDO by which a node takes a message
unfoldable pub rpdo_for : Had → Devices → Linked → ℕ → Option ℕ
rpdo_for had devices m node =
    rpdo_by had devices m (carried_of devices m.message.node m.sources) (sought_identifier had devices m.message) node
