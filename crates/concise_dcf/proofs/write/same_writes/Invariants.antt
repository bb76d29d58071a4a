use Rattle.std.proofs.Common.{◌≡◌, take}
use Rattle.concise_dcf.proofs.write.same_writes.Given as goal

-- what came so far is the same
abbrev pub invariant-loop-i : goal.invariant-loop-i
invariant-loop-i l = take l.i l.a ≡ take l.i l.b
