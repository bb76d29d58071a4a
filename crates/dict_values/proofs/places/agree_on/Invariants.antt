use Rattle.std.proofs.Common.{◌≡◌, ◌↔◌}
use Rattle.std.specs.FinMap.{get}
use Rattle.dict_values.specs.Layers.{AgreeOn}
use Rattle.dict_values.proofs.EachPlace.{Each}
use Rattle.dict_values.proofs.places.agree_on.Given as goal

-- they agree at what is left just where they agree at all
abbrev pub invariant-loop-place : goal.invariant-loop-place
invariant-loop-place l = Each (λ q. get l.a q ≡ get l.b q) l.place-iterator ↔ AgreeOn l.places l.a l.b
