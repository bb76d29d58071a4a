use Rattle.std.proofs.Common.{◌≡◌, ◌++◌, filter_map, take}
use Rattle.std.specs.FinMap.{get}
use Rattle.ini_text.specs.Change.{text_of}
use Rattle.eds_dcf.specs.Compact.{made_section}
use Rattle.eds_dcf.proofs.MadeLemmas.{at_first}
use Rattle.eds_dcf.proofs.text.put_all_made.Given as goal

abbrev pub invariant-loop-index : goal.invariant-loop-index
invariant-loop-index l =
    l.out.items ≡ l.fn.out.items ++ text_of (filter_map (at_first (made_section l.device (get l.values)))
    (take l.index-index l.index-items))
