use Rattle.std.proofs.Common.{◌≡◌, take}
use Rattle.pdo_plan.proofs.comparing.are_same.Given as goal

-- what came so far is the same
abbrev pub invariant-loop-i : goal.invariant-loop-i
invariant-loop-i g l = take l.i l.a ≡ take l.i l.b
