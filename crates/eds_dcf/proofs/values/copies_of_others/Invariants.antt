use Rattle.std.proofs.Common.{◌≡◌, not, filter, take}
use Rattle.eds_dcf.specs.Compact.{is_decimal}
use Rattle.eds_dcf.proofs.values.copies_of_others.Given as goal

abbrev pub invariant-loop-pair : goal.invariant-loop-pair
invariant-loop-pair l = l.settings.items ≡ filter (λ p. not (is_decimal p.key)) (take l.pair-index l.pairs)
