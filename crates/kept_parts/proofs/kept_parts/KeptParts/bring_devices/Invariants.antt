use Rattle.kept_parts.proofs.NodeLemmas.{SoFar}
use Rattle.kept_parts.proofs.kept_parts.KeptParts.bring_devices.Given as goal

abbrev pub invariant-loop-number : goal.invariant-loop-number
invariant-loop-number l = SoFar l.project l.number-iterator l.fn.self l.self l.fn.meter l.meter l.devices
