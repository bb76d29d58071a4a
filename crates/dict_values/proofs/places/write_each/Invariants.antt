use Rattle.std.proofs.Common.{◌≡◌}
use Rattle.std.specs.FinMap.{entries}
use Rattle.dict_values.specs.Restored.{with_all}
use Rattle.dict_values.proofs.places.write_each.Given as goal

-- what is left to write gives what all gives
abbrev pub invariant-loop-place : goal.invariant-loop-place
invariant-loop-place l =
    with_all l.first l.last l.inside l.place-iterator l.dict
    ≡ with_all l.first l.last l.inside (entries l.from) l.fn.dict
