use Rattle.std.proofs.Common.{◌≡◌, ◌↔◌}
use Rattle.project_messages.proofs.receives.Receives.same.Given as goal

-- what is left is the same just where all is
abbrev pub invariant-loop-node : goal.invariant-loop-node
invariant-loop-node l = (l.node-iterator ≡ l.others) ↔ (l.self ≡ l.other)
