-- How many mapping entries the PDOs of a device have room for.
use Rattle.std.specs.Prelude.{◌≡◌, ℕ, ◌-◌, ◌≤◌, nat_le, Bool, false, List, length, slice_index_or, Option, Some, None}
use Rattle.std.specs.FinMap.{get}
use Rattle.co_dict.specs.Shapes.{Shaped, is_dummy_allowed}
use Rattle.pdo_stations.specs.Devices.{Devices, has_pdo}
use Rattle.cia301.specs.PdoObjects.{rpdo_object}

-- the device of a shape, at whatever node
abbrev pub device_with : Shaped → Devices
device_with shape = record {
  entry = λ node place. get shape.entries place;
  dummy = λ node kind. is_dummy_allowed shape kind;
  vendor = None;
  controller = None;
}

-- a PDO that has room for so many entries has room for fewer; None is a PDO that can't be used
abbrev pub has_room : Option ℕ → ℕ → Bool
has_room None count = false
has_room (Some room) count = nat_le count room

-- a PDO has room for those counts, up to 64, for which it has what its writes name
abbrev pub IsRoomOf : Shaped → ℕ → Option ℕ → Type 0
IsRoomOf shape object room = (count : ℕ) → count ≤ 64 → has_room room count ≡ has_pdo (device_with shape) 0 object count

-- the room of RPDO 1 to 512, in this order
abbrev pub room_of : List (Option ℕ) → ℕ → Option ℕ
room_of rooms number = slice_index_or rooms (number - 1) None

-- the rooms of all RPDOs
pub record AreRoomsOf (shape : Shaped) (rooms : List (Option ℕ)) : Type 0 where
  pub count : length rooms ≡ 512
  pub each : (number : ℕ) → 1 ≤ number → number ≤ 512 → IsRoomOf shape (rpdo_object number) (room_of rooms number)
