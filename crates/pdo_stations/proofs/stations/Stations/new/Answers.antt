use Rattle.pdo_stations.specs.Shown.{nodes_of}
use Rattle.pdo_stations.proofs.StationLemmas.{devices_alike}
use Rattle.pdo_stations.proofs.stations.Stations.new.Goals as goal

pub returns : goal.returns
returns c = devices_alike (record {
  seats = c.in_ok-seats.seats;
  makes = c.in_ok-makes.makes;
  controller = c.args.controller;
}) c.args.is_three (nodes_of c.args.nodes.now) c.in_ok-seats.ensures c.in_ok-makes.ensures
