use Rattle.std.proofs.Common.{◌≡◌, take}
use Rattle.ini_text.proofs.comparing.same_sections.Given as goal

-- what came so far is the same
abbrev pub invariant-loop-i : goal.invariant-loop-i
invariant-loop-i l = take l.i l.a ≡ take l.i l.b
