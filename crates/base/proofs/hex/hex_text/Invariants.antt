use Rattle.std.proofs.Common.{◌≡◌, ◌++◌, length}
use Rattle.base.specs.Hex.{hex_text}
use Rattle.base.proofs.hex.hex_text.Given as goal

abbrev pub invariant-loop-rest : goal.invariant-loop-rest
invariant-loop-rest l = l.out.items ++ hex_text l.rest ≡ hex_text l.bytes

abbrev pub decreases-loop-rest : goal.decreases-loop-rest
decreases-loop-rest l = length l.rest
