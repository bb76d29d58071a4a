use Rattle.std.proofs.Common.{◌≡◌, take}
use Rattle.ini_text.specs.Change.{text_of}
use Rattle.ini_text.proofs.table.print.Given as goal

abbrev pub invariant-loop-section : goal.invariant-loop-section
invariant-loop-section l = l.out.items ≡ text_of (take l.section-index l.sections)
