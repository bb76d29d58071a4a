use Rattle.std.proofs.Common.{◌≡◌, ℕ, ◌+◌, ◌<◌, ◌≤◌, length}
use Rattle.cia301.specs.PdoObjects.{rpdo_object}
use Rattle.pdo_stations.specs.Rooms.{room_of, IsRoomOf}
use Rattle.pdo_stations.proofs.station.rooms.Given as goal

-- the rooms so far
abbrev pub invariant-loop-number : goal.invariant-loop-number
invariant-loop-number l = record {
  count : length l.rooms.items + 1 ≡ l.number;
  rooms : (number : ℕ) → 1 ≤ number → number < l.number
      → IsRoomOf l.shape (rpdo_object number) (room_of l.rooms.items number);
}
