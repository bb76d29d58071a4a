-- What the program knows of what clean messages have.
use Rattle.std.specs.Prelude.{ℕ}
use Rattle.std.specs.Ordering.{nat_cmp, ordering_then}
use Rattle.pdo_stations.specs.Devices.{Devices}
use Rattle.std.specs.declared.cmp.Ordering.{Ordering}
use Rattle.std.specs.BTreeSet.{contains}
use Rattle.pdo_choices.specs.declared.taken.Taken.{Taken}
use Rattle.pdo_stations.specs.Flags.{is_flagged}
use Rattle.pdo_stations.specs.Stations.{devices_in}
use Rattle.pdo_choices.specs.Had.{Had}

-- a number at a node: by node, and then by number
abbrev pub pair_cmp : ℕ × ℕ → ℕ × ℕ → Ordering
pair_cmp a b = ordering_then (nat_cmp a.0 b.0) (nat_cmp a.1 b.1)

-- the devices of its stations
abbrev pub devices_known : Taken → Devices
devices_known taken = devices_in taken.known.stations

-- what the tables have
abbrev pub had_in : Taken → Had
had_in taken = record {
  identifier = λ id. contains nat_cmp taken.identifiers id;
  tpdo = λ node number. contains pair_cmp taken.tpdos (node, number);
  rpdo = λ node number. is_flagged taken.rpdos.flags.items node number;
  withheld = record {
    identifier = λ id. contains nat_cmp taken.known.withheld id;
    rpdo = λ node number. contains pair_cmp taken.withheld_rpdos (node, number);
  };
}
