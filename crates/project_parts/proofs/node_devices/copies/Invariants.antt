use Rattle.std.proofs.Common.{◌≡◌, take}
use Rattle.project_parts.proofs.node_devices.copies.Given as goal

abbrev pub invariant-loop-number : goal.invariant-loop-number
invariant-loop-number l = l.copy.items ≡ take l.number-index l.items
