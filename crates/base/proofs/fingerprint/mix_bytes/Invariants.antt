use Rattle.std.proofs.Common.{◌≡◌, length}
use Rattle.std.specs.List.{fold}
use Rattle.base.specs.Fingerprint.{mix}
use Rattle.base.proofs.fingerprint.mix_bytes.Given as goal

-- what came so far with the rest is all
abbrev pub invariant-loop-rest : goal.invariant-loop-rest
invariant-loop-rest l = fold mix l.all l.rest ≡ fold mix l.fingerprint l.bytes

abbrev pub decreases-loop-rest : goal.decreases-loop-rest
decreases-loop-rest l = length l.rest
