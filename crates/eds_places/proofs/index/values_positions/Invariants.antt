use Rattle.std.proofs.Common.{take}
use Rattle.eds_places.specs.Index.{FindsListed}
use Rattle.eds_places.proofs.index.values_positions.Given as goal

abbrev pub invariant-loop-position : goal.invariant-loop-position
invariant-loop-position l = FindsListed l.table.entries l.sections (take l.position l.sections)
