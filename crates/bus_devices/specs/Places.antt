-- Devices by their places in a list.
use Rattle.std.specs.Prelude.{ℕ, false, List, slice_index_or}
use Rattle.co_device.specs.Device.{Device, without_power}

abbrev pub device_at : List Device → ℕ → Device
device_at ds i = slice_index_or ds i (without_power false 0)
