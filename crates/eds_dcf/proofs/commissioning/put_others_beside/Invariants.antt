use Rattle.std.proofs.Common.{◌≡◌, ◌++◌, [], option_copied, take}
use Rattle.std.specs.List.{flat_map}
use Rattle.std.specs.Option.{option_map_or}
use Rattle.ini_text.specs.Change.{pair_text}
use Rattle.eds_dcf.specs.Commissioning.{others_beside}
use Rattle.eds_dcf.proofs.commissioning.put_others_beside.Given as goal

abbrev pub invariant-loop-pair : goal.invariant-loop-pair
invariant-loop-pair l = l.out.items ≡ l.fn.out.items
    ++ flat_map pair_text (others_beside (option_map_or (λ s. s.pairs) (option_copied l.first) [])
    (take l.pair-index l.pairs))
