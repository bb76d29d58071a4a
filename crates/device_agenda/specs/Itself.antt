-- What a device stays, whatever it takes or does.
use Rattle.std.specs.Prelude.{◌≡◌}
use Rattle.co_device.specs.Device.{Device}

-- the number is as before, and so are power and whether it is spent
pub record StaysItself (d e : Device) : Type 0 where
  pub number : e.number ≡ d.number
  pub has_power : e.has_power ≡ d.has_power
  pub spent : e.spent ≡ d.spent
