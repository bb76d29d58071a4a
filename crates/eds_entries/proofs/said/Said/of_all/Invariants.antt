use Rattle.std.proofs.Common.{◌≡◌, map, take}
use Rattle.eds_entries.specs.Said.{said_in}
use Rattle.eds_entries.proofs.said.Said.of_all.Given as goal

abbrev pub invariant-loop-section : goal.invariant-loop-section
invariant-loop-section l = l.said.items ≡ map said_in (take l.section-index l.sections)
