use Rattle.std.proofs.Common.{take}
use Rattle.std.specs.Ordering.{nat_cmp}
use Rattle.ini_text.specs.Content.{Pair}
use Rattle.eds_entries.specs.Names.{sub_listed}
use Rattle.eds_places.specs.Index.{FindsFirsts}
use Rattle.eds_places.specs.Origins.{is_index}
use Rattle.eds_places.proofs.index.pair_positions.Given as goal

abbrev pub invariant-loop-position : goal.invariant-loop-position
invariant-loop-position l = FindsFirsts nat_cmp (λ key (p : Pair). is_index key (sub_listed p.key)) l.table.entries
    l.pairs (take l.position l.pairs)
