use Rattle.std.proofs.Common.{◌<◌, length, arith}
use Rattle.pdo_stations.specs.Devices.{as_made}
use Rattle.pdo_stations.proofs.SeatLemmas.{one_taken}
use Rattle.pdo_stations.proofs.makes.put_made.Goals as goal

pub returns-clause-made : goal.returns-clause-made
returns-clause-made c =
    let makes = c.args.makes.now in
    let within : c.args.number < length makes = omega (arith, c.ranges.number.fits, c.requires) in
    rw (c.from.ensures, c.in_ok-made.ensures) (one_taken makes c.args.number (as_made c.args.device.now c.args.number) within)
