use Rattle.std.proofs.Common.{◌≡◌, ◌↔◌}
use Rattle.project_messages.proofs.sinks.Sinks.same.Given as goal

-- what is left is the same just where all is
abbrev pub invariant-loop-seat : goal.invariant-loop-seat
invariant-loop-seat l = (l.seat-iterator ≡ l.others) ↔ (l.self ≡ l.other)
