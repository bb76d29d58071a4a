-- When the timers of a device are due.
use Rattle.std.specs.Prelude.{◌≤◌, ℕ, List, Option, IfSome}
use Rattle.std.specs.List.{AllByRecursion}
use Rattle.device_objects.specs.declared.consumer.Consumer.{Consumer}
use Rattle.co_device.specs.Device.{Device}

-- the moment, if there is one, doesn't lie before t
abbrev pub NotBefore : ℕ → Option ℕ → Type 0
NotBefore t moment = IfSome moment (λ m. t ≤ m)

-- no moment of a consumer lies before t
abbrev pub AreAhead : ℕ → List Consumer → Type 0
AreAhead t consumers = AllByRecursion (λ c. NotBefore t c.moment) consumers

-- no moment of the device's timers, heartbeat and consumers, lies before t
pub record IsAhead (t : ℕ) (d : Device) : Type 0 where
  pub heartbeat : NotBefore t d.heartbeat
  pub consumers : AreAhead t d.consumers
