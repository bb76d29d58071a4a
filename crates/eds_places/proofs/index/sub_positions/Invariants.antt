use Rattle.std.proofs.Common.{take}
use Rattle.eds_entries.specs.Names.{place_named}
use Rattle.co_dict.specs.Places.{place_cmp}
use Rattle.eds_places.specs.Origins.{is_place}
use Rattle.eds_places.specs.Index.{FindsFirsts}
use Rattle.eds_places.proofs.index.sub_positions.Given as goal

abbrev pub invariant-loop-position : goal.invariant-loop-position
invariant-loop-position l = FindsFirsts place_cmp (λ key s. is_place key (place_named s.name)) l.table.entries
    l.sections (take l.position l.sections)
