use Rattle.std.proofs.Common.{◌≡◌, ◌↔◌}
use Rattle.std.specs.FinMap.{entries}
use Rattle.co_project.proofs.nodes.same_nodes.Given as goal

-- what is left is the same just where all is
abbrev pub invariant-loop-id : goal.invariant-loop-id
invariant-loop-id l = (l.id-iterator ≡ l.others) ↔ (entries l.a ≡ entries l.b)
