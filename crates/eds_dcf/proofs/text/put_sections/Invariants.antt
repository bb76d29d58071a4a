use Rattle.std.proofs.Common.{◌≡◌, ◌++◌, take}
use Rattle.std.specs.FinMap.{get}
use Rattle.std.specs.List.{flat_map}
use Rattle.eds_dcf.specs.Template.{piece}
use Rattle.eds_dcf.proofs.text.put_sections.Given as goal

abbrev pub invariant-loop-section : goal.invariant-loop-section
invariant-loop-section l =
    l.out.items ≡ l.fn.out.items ++ flat_map (piece l.device (get l.values))
    (take l.section-index l.section-items)
