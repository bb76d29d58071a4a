use Rattle.kept_parts.proofs.NetworkLemmas.{TableSoFar}
use Rattle.kept_parts.proofs.kept_parts.KeptParts.node_table.Given as goal

abbrev pub invariant-loop-id : goal.invariant-loop-id
invariant-loop-id l = TableSoFar l.project l.id-iterator l.table
