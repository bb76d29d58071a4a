use Rattle.std.specs.Ordering.{nat_cmp}
use Rattle.eds_entries.specs.Names.{index_named}
use Rattle.eds_places.specs.Origins.{is_index}
use Rattle.eds_places.proofs.IndexLemmas.{no_sections, one_more}
use Rattle.eds_places.proofs.index.object_positions.Goals as goal

pub loop-position-init : goal.loop-position-init
loop-position-init c = no_sections nat_cmp (λ key s. is_index key (index_named s.name)) _ _ c.new-table.ensures.empty

pub loop-position-preserved : goal.loop-position-preserved
loop-position-preserved c =
    one_more nat_cmp (λ key s. is_index key (index_named s.name)) _ _ _ _ c.index-sections-position.result
    c.loop-position-test.true c.index-sections-position.is
    (rw (c.index_named.ensures, c.name.ensures) at c.in_ok-note_index.ensures)
    c.loop-position.invariant
