use Rattle.eds_entries.specs.Names.{place_named}
use Rattle.co_dict.specs.Places.{place_cmp}
use Rattle.eds_places.specs.Origins.{is_place}
use Rattle.eds_places.proofs.IndexLemmas.{no_sections, one_more}
use Rattle.eds_places.proofs.index.sub_positions.Goals as goal

pub loop-position-init : goal.loop-position-init
loop-position-init c = no_sections place_cmp (λ key s. is_place key (place_named s.name)) _ _ c.new-table.ensures.empty

pub loop-position-preserved : goal.loop-position-preserved
loop-position-preserved c =
    one_more place_cmp (λ key s. is_place key (place_named s.name)) _ _ _ _ c.index-sections-position.result
    c.loop-position-test.true c.index-sections-position.is
    (rw (c.place_named.ensures, c.name.ensures) at c.in_ok-note_place.ensures)
    c.loop-position.invariant
