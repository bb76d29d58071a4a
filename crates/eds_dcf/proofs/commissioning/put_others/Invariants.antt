use Rattle.std.proofs.Common.{◌≡◌, ◌++◌, take}
use Rattle.std.specs.List.{flat_map}
use Rattle.ini_text.specs.Change.{pair_text}
use Rattle.eds_dcf.specs.Commissioning.{others}
use Rattle.eds_dcf.proofs.commissioning.put_others.Given as goal

abbrev pub invariant-loop-pair : goal.invariant-loop-pair
invariant-loop-pair l = l.out.items ≡ l.fn.out.items ++ flat_map pair_text (others (take l.pair-index l.pairs))
