use Rattle.std.proofs.Common.{◌≡◌, ◌++◌}
use Rattle.eds_places.proofs.places.in_order.Given as goal

abbrev pub invariant-loop-place : goal.invariant-loop-place
invariant-loop-place l = l.all.items ++ l.place-iterator ≡ l.places.keys
