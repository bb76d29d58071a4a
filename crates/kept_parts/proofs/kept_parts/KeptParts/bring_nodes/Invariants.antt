use Rattle.kept_parts.proofs.AllLemmas.{NodesSoFar}
use Rattle.kept_parts.proofs.kept_parts.KeptParts.bring_nodes.Given as goal

abbrev pub invariant-loop-number : goal.invariant-loop-number
invariant-loop-number l = NodesSoFar l.project l.number-iterator l.fn.self l.self l.fn.meter l.meter
