use Rattle.std.proofs.Common.{◌≡◌, false, true, IsSome, ℕ}
use Rattle.std.specs.FinMap.{get}
use Rattle.dict_values.specs.Layers.{HasEach}
use Rattle.dict_values.specs.Restored.{is_kept}
use Rattle.dict_values.proofs.EachPlace.{Each}
use Rattle.dict_values.proofs.places.has_each.Given as goal

-- it has all where it has what is left
abbrev pub invariant-loop-place : goal.invariant-loop-place
invariant-loop-place l =
    Each (λ q. is_kept l.first l.last false q.0 ≡ true → IsSome (get l.dict q)) l.place-iterator
    → HasEach (λ (q : ℕ × ℕ). is_kept l.first l.last false q.0) l.places l.dict
