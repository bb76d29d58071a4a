use Rattle.std.proofs.Common.{◌≡◌, ◌*◌, None, take}
use Rattle.bus_devices.specs.Senders.{sender_place}
use Rattle.bus_devices.proofs.blocks.sender_place.Given as goal

-- no device of the blocks so far contends with it
abbrev pub invariant-loop-i : goal.invariant-loop-i
invariant-loop-i l = None ≡ sender_place l.fn.contender (take (8 * l.i) l.devices)
