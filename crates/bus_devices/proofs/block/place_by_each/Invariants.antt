use Rattle.std.proofs.Common.{◌≡◌, None, take}
use Rattle.bus_devices.specs.Senders.{sender_place}
use Rattle.bus_devices.proofs.block.place_by_each.Given as goal

-- none of those so far contends with it
abbrev pub invariant-loop-place : goal.invariant-loop-place
invariant-loop-place l = None ≡ sender_place l.fn.contender (take l.place l.devices)
