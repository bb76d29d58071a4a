-- Whether some item of a list passes, noted item by item.
use Rattle.std.proofs.Common.{◌≡◌, ◌||◌, Bool, true, false, List, ◌∷◌, ap, sym, ◌∙◌}
use Rattle.std.specs.List.{list_any}

module _ {X : Type 0} (test : X → Bool) where
  step : (found here : Bool) (all rest : List X) (x : X) → here ≡ test x
      → (found || list_any test (x ∷ rest)) ≡ list_any test all → ((found || here) || list_any test rest) ≡ list_any test all
  step true here all rest x is so_far = so_far
  step false here all rest x is so_far = ap (λ b. b || list_any test rest) is ∙ so_far

  -- one more item
  pub any_noted : (found here after : Bool) (all left rest : List X) (x : X) → left ≡ x ∷ rest → here ≡ test x
      → after ≡ (found || here) → (found || list_any test left) ≡ list_any test all
      → (after || list_any test rest) ≡ list_any test all
  any_noted found here after all left rest x first is noted so_far =
      ap (λ b. b || list_any test rest) noted
      ∙ step found here all rest x is (ap (λ xs. found || list_any test xs) (sym first) ∙ so_far)
