-- What tells lists of devices apart.
use Rattle.std.specs.Prelude.{◌≡◌, List, slice_get}
use Rattle.bus_devices.specs.declared.apart.Apart.{Apart}
use Rattle.bus_devices.specs.declared.apart.Apart.TheVariants.{No, At, Elsewhere}
use Rattle.co_device.specs.Device.{Device}

-- they are the same; or they differ at a place; or they differ, wherever
abbrev pub TellsApart : Apart → List Device → List Device → Type 0
TellsApart No ds es = ds ≡ es
TellsApart (At place) ds es = slice_get ds place ≡ slice_get es place → ⊥
TellsApart Elsewhere ds es = ds ≡ es → ⊥
