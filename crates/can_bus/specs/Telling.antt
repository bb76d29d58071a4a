-- What tells buses apart.
use Rattle.std.specs.Prelude.{◌≡◌, slice_get}
use Rattle.bus_devices.specs.declared.apart.Apart.{Apart}
use Rattle.bus_devices.specs.declared.apart.Apart.TheVariants.{No, At, Elsewhere}
use Rattle.can_bus.specs.Bus.{Bus}

-- they are the same; or their devices differ at a place; or they differ, wherever
abbrev pub TellsApart : Apart → Bus → Bus → Type 0
TellsApart No a b = a ≡ b
TellsApart (At place) a b = slice_get a.devices place ≡ slice_get b.devices place → ⊥
TellsApart Elsewhere a b = a ≡ b → ⊥
