use Rattle.std.proofs.Common.{◌≡◌, length}
use Rattle.std.specs.List.{fold}
use Rattle.pdo_plan.proofs.fingerprint.with_all.Given as goal

-- what came so far with the rest is all
abbrev pub invariant-loop-rest : goal.invariant-loop-rest
invariant-loop-rest g l = fold g.T.Part.with_part l.all l.rest ≡ fold g.T.Part.with_part l.fingerprint l.parts

abbrev pub decreases-loop-rest : goal.decreases-loop-rest
decreases-loop-rest g l = length l.rest
