use Rattle.std.proofs.Common.{◌≡◌, ◌↔◌}
use Rattle.co_dict.proofs.comparing.same_descriptions.Given as goal

-- what is left is the same just where all is
abbrev pub invariant-loop-place : goal.invariant-loop-place
invariant-loop-place l = (l.place-iterator ≡ l.rest) ↔ (l.entries.entries ≡ l.others.entries)
