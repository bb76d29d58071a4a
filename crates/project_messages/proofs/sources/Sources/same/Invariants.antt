use Rattle.std.proofs.Common.{◌≡◌, ◌↔◌}
use Rattle.project_messages.proofs.sources.Sources.same.Given as goal

-- what is left is the same just where all is
abbrev pub invariant-loop-position : goal.invariant-loop-position
invariant-loop-position l = (l.position-iterator ≡ l.others) ↔ (l.self ≡ l.other)
