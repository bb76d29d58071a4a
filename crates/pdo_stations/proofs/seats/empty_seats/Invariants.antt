use Rattle.std.proofs.Common.{◌≡◌, [], length}
use Rattle.pdo_stations.specs.Seats.{seats_by_number}
use Rattle.pdo_stations.proofs.seats.empty_seats.Given as goal

-- the seats so far are empty
abbrev pub invariant-loop-number : goal.invariant-loop-number
invariant-loop-number l = record {
  count : length l.seats.items ≡ l._number;
  empty : seats_by_number 0 l.seats.items ≡ [];
}
