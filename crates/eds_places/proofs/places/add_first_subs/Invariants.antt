use Rattle.std.proofs.Common.{◌≡◌, ◌≤◌, length}
use Rattle.eds_places.specs.Faults.{most_entries}
use Rattle.eds_places.specs.Places.{first_subs, put_in_order}
use Rattle.eds_places.proofs.places.add_first_subs.Given as goal

abbrev pub invariant-loop-sub : goal.invariant-loop-sub
invariant-loop-sub l = (l.places.keys ≡ put_in_order l.initial.places.keys (first_subs l.index l.sub))
    × (length l.places.keys ≤ most_entries)
