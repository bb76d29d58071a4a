use Rattle.std.proofs.Common.{◌≡◌}
use Rattle.kept_parts.proofs.NodeLemmas.{Gathered}
use Rattle.kept_parts.proofs.kept_parts.KeptParts.devices_for_plan.Given as goal

abbrev pub invariant-loop-number : goal.invariant-loop-number
invariant-loop-number l = (l.self ≡ l.fn.self) × Gathered l.project l.number-iterator l.devices
