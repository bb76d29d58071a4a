-- What tells buses apart.
use Rattle.std.proofs.Common.{◌≡◌, List, ap, ◌∙◌}
use Rattle.bus_devices.specs.Telling.{TellsApart as tells}
use Rattle.bus_devices.specs.declared.apart.Apart.{Apart}
use Rattle.bus_devices.specs.declared.apart.Apart.TheVariants.{No, At, Elsewhere}
use Rattle.can_bus.specs.Bus.{Bus}
use Rattle.can_bus.specs.Telling.{TellsApart}
use Rattle.co_device.specs.Device.{Device}

-- what tells the devices apart of buses that are the same but for these tells the buses apart
pub by_devices : (apart : Apart) (a b : Bus) → record a { devices = b.devices } ≡ b
    → tells apart a.devices b.devices → TellsApart apart a b
by_devices No a b like e = ap (λ (ds : List Device). record a { devices = ds }) e ∙ like
by_devices (At place) a b like h = h
by_devices Elsewhere a b like h = λ e. h (ap (λ (x : Bus). x.devices) e)
