use Rattle.std.proofs.Common.{◌≡◌, ◌↔◌}
use Rattle.dict_values.proofs.entries.same_entries.Given as goal

-- what is left is the same just where all is
abbrev pub invariant-loop-place : goal.invariant-loop-place
invariant-loop-place l = (l.place-iterator ≡ l.others) ↔ (l.a.entries ≡ l.b.entries)
