use Rattle.std.proofs.Common.{take}
use Rattle.std.specs.Ordering.{nat_cmp}
use Rattle.eds_entries.specs.Names.{index_named}
use Rattle.eds_places.specs.Origins.{is_index}
use Rattle.eds_places.specs.Index.{FindsFirsts}
use Rattle.eds_places.proofs.index.object_positions.Given as goal

abbrev pub invariant-loop-position : goal.invariant-loop-position
invariant-loop-position l = FindsFirsts nat_cmp (λ key s. is_index key (index_named s.name)) l.table.entries l.sections
    (take l.position l.sections)
