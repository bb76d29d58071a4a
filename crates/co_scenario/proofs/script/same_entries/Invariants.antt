use Rattle.std.proofs.Common.{◌≡◌, ◌↔◌}
use Rattle.std.specs.FinMap.{entries}
use Rattle.co_scenario.proofs.script.same_entries.Given as goal

-- what is left is the same just where all is
abbrev pub invariant-loop-number : goal.invariant-loop-number
invariant-loop-number l = (l.number-iterator ≡ l.others) ↔ (entries l.a ≡ entries l.b)
