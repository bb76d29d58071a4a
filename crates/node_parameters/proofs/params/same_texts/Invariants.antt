use Rattle.std.proofs.Common.{◌≡◌, ◌↔◌}
use Rattle.std.specs.FinMap.{entries}
use Rattle.node_parameters.proofs.params.same_texts.Given as goal

-- what is left is the same just where all is
abbrev pub invariant-loop-place : goal.invariant-loop-place
invariant-loop-place l = (l.place-iterator ≡ l.others) ↔ (entries l.a ≡ entries l.b)
