use Rattle.std.proofs.Common.{take}
use Rattle.eds_places.specs.Table.{AreStands}
use Rattle.eds_places.proofs.table.stands.Given as goal

abbrev pub invariant-loop-place : goal.invariant-loop-place
invariant-loop-place l = AreStands l.sections (take l.place-index l.places) l.stands.items
