use Rattle.std.proofs.Common.{◌≡◌, take}
use Rattle.co_dict.proofs.comparing.same_flags.Given as goal

-- what came so far is the same
abbrev pub invariant-loop-place : goal.invariant-loop-place
invariant-loop-place l = take l.place l.flags ≡ take l.place l.others
