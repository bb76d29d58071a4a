use Rattle.std.proofs.Common.{◌+◌, ◌-◌, length, map}
use Rattle.kept_values.specs.Numbers.{HasSameKeys}
use Rattle.kept_values.proofs.index.make_place.Given as goal

-- no keys came
abbrev pub invariant-places : goal.invariant-places
invariant-places l = HasSameKeys (map (λ k. k.items) l.fn.keys.items) (map (λ k. k.items) l.keys.items)

abbrev pub decreases-places : goal.decreases-places
decreases-places l = l.number + 1 - length l.keys.items
