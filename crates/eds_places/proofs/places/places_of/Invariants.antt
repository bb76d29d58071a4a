use Rattle.std.proofs.Common.{◌≡◌, ◌≤◌, [], length, take}
use Rattle.std.specs.List.{flat_map}
use Rattle.eds_places.specs.Faults.{most_entries}
use Rattle.eds_places.specs.Places.{places_given, put_in_order}
use Rattle.eds_places.proofs.places.places_of.Given as goal

abbrev pub invariant-loop-section : goal.invariant-loop-section
invariant-loop-section l = (l.places.keys ≡ put_in_order [] (flat_map places_given (take l.section-index l.sections)))
    × (length l.places.keys ≤ most_entries)
