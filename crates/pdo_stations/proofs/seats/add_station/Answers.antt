use Rattle.std.proofs.Common.{◌≡◌, ◌<◌, length, ◌∙◌, arith}
use Rattle.eds_device.specs.Entries.{shape_of}
use Rattle.pdo_stations.proofs.SeatLemmas.{seat_taken}
use Rattle.pdo_stations.proofs.seats.add_station.Goals as goal

pub returns-clause-station : goal.returns-clause-station
returns-clause-station c =
    let seats = c.args.seats.now in
    let within : c.args.number < length seats = omega (arith, c.ranges.number.fits, c.requires) in
    let is : c.in_ok-station.station ≡ shape_of c.args.device.now c.args.number =
    c.in_ok-station.ensures ∙ c.in_ok-shape.ensures in
    rw (c.from.ensures, is) (seat_taken seats c.args.number (shape_of c.args.device.now c.args.number)
    within)
