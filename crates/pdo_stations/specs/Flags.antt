-- Which RPDOs of which nodes are taken.
use Rattle.std.specs.Prelude.{ℕ, ◌+◌, ◌*◌, nat_le, ◌&&◌, not, Bool, false, List, slice_index_or}
use Rattle.co_dict.specs.Shapes.{Shaped}
use Rattle.pdo_stations.specs.Devices.{has_pdo}
use Rattle.cia301.specs.PdoObjects.{rpdo_object}
use Rattle.pdo_stations.specs.Rooms.{device_with}

-- the place of an RPDO among the flags: each node has those of RPDO 0 to 512
abbrev pub seat : ℕ → ℕ → ℕ
seat node number = 513 * node + number

abbrev pub is_flagged : List Bool → ℕ → ℕ → Bool
is_flagged flags node number = nat_le number 512 && slice_index_or flags (seat node number) false

-- an RPDO of a node that no flag has, and that has what its writes name
unfoldable pub is_spare : Shaped → List Bool → ℕ → ℕ → ℕ → Bool
is_spare shape flags node count number = not (is_flagged flags node number)
    && has_pdo (device_with shape) 0 (rpdo_object number) count
