-- Words of the laws of events.
use Rattle.std.specs.Prelude.{◌≡◌, ◌≢◌, ℕ, List}
use Rattle.bus_devices.specs.Places.{device_at}
use Rattle.co_device.specs.Device.{Device}

-- each device but those of this number is as it was
abbrev pub OthersStay : ℕ → List Device → List Device → Type 0
OthersStay node before after = (i : ℕ) → (device_at before i).number ≢ node → device_at after i ≡ device_at before i
