use Rattle.std.proofs.Common.{take, map}
use Rattle.can_frame.specs.Senders.{device_sender}
use Rattle.can_frame.specs.Winner.{contenders, IsWinner}
use Rattle.bus_devices.proofs.block.winner_of.Given as goal

abbrev pub invariant-loop-device : goal.invariant-loop-device
invariant-loop-device l = IsWinner (contenders (map (λ d. (device_sender d.number, d.waiting)) (take l.device-index l.devices)))
    l.best
