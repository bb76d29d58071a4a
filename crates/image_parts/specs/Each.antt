-- Each of a list in turn.
use Rattle.std.specs.Prelude.{List, [], ◌∷◌}
use Rattle.image_parts.specs.Asking.{Asking, Answer, bind}

-- what each of them comes to, one after another
abbrev pub each : {N V A B : Type 0} → (A → Asking N V B) → List A → Asking N V (List B)
each step [] = Answer []
each step (a ∷ rest) = bind (step a) (λ b. bind (each step rest) (λ bs. Answer (b ∷ bs)))
