-- Private numbers: each of those that were given stands for one value, and none is given twice.
use Rattle.std.specs.Prelude.{◌≡◌, ℕ, ◌<◌, ◌==◌, if◌then◌else◌}

module _ {X : Type 0} where
  -- the number is one of those that were given, and stands for the value
  abbrev pub StandsFor : (ℕ → X) → ℕ → ℕ → X → Type 0
  StandsFor meaning given number value = (number < given) × (meaning number ≡ value)

  -- one more number is given: it stands for the value
  abbrev pub with_meaning : (ℕ → X) → ℕ → X → ℕ → X
  with_meaning meaning given value number = if number == given then value else meaning number

  -- the numbers that were given stand for what they stood for
  abbrev pub KeepsMeaning : ℕ → (ℕ → X) → (ℕ → X) → Type 0
  KeepsMeaning given old new = (number : ℕ) → number < given → new number ≡ old number
