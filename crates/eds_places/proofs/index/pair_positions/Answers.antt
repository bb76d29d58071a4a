use Rattle.std.specs.Ordering.{nat_cmp}
use Rattle.ini_text.specs.Content.{Pair}
use Rattle.eds_entries.specs.Names.{sub_listed}
use Rattle.eds_places.specs.Origins.{is_index}
use Rattle.eds_places.proofs.IndexLemmas.{no_sections, one_more}
use Rattle.eds_places.proofs.index.pair_positions.Goals as goal

pub loop-position-init : goal.loop-position-init
loop-position-init c =
    no_sections nat_cmp (λ key (p : Pair). is_index key (sub_listed p.key)) _ _ c.new-table.ensures.empty

pub loop-position-preserved : goal.loop-position-preserved
loop-position-preserved c =
    one_more nat_cmp (λ key (p : Pair). is_index key (sub_listed p.key)) _ _ _ _ c.index-pairs-position.result
    c.loop-position-test.true c.index-pairs-position.is
    (rw (c.sub_listed.ensures, c.key.ensures) at c.in_ok-note_sub.ensures)
    c.loop-position.invariant
