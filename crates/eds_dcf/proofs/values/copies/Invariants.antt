use Rattle.std.proofs.Common.{◌≡◌, take}
use Rattle.eds_dcf.proofs.values.copies.Given as goal

abbrev pub invariant-loop-pair : goal.invariant-loop-pair
invariant-loop-pair l = l.settings.items ≡ take l.pair-index l.pairs
