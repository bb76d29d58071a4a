-- The devices of a bus by the numbers of their nodes.
use Rattle.std.specs.Prelude.{ℕ, ◌==◌, List, Option, option_map}
use Rattle.std.specs.List.{find}
use Rattle.co_device.specs.Device.{Device}
use Rattle.co_dict.specs.Values.{Values}

-- the first device of a number
abbrev pub device_of : ℕ → List Device → Option Device
device_of n ds = find (λ d. d.number == n) ds

-- the values of the first device of a number
abbrev pub values_of : ℕ → List Device → Option Values
values_of n ds = option_map (λ d. d.values) (device_of n ds)
