-- What is looked up once for each node.
use Rattle.std.specs.Prelude.{false, option_and_then, option_map}
use Rattle.std.specs.FinMap.{get}
use Rattle.std.specs.Option.{option_map_or}
use Rattle.co_dict.specs.Shapes.{Shaped, is_dummy_allowed}
use Rattle.pdo_stations.specs.Devices.{Devices}
use Rattle.pdo_stations.specs.Seats.{made_at, shape_at}
use Rattle.pdo_stations.specs.declared.stations.Stations.{Stations}

-- the devices of the stations
abbrev pub devices_in : Stations → Devices
devices_in stations = record {
  entry = λ node place. option_and_then (λ (s : Shaped). get s.entries place) (shape_at stations.seats node);
  dummy = λ node kind. option_map_or (λ (s : Shaped). is_dummy_allowed s kind) (shape_at stations.seats node) false;
  vendor = option_map (λ makes. made_at makes.items) stations.makes;
  controller = stations.controller;
}
