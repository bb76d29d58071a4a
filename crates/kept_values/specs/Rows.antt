-- Values in the order of their numbers, and those beside them.
use Rattle.std.specs.Prelude.{◌≡◌, ℕ, ◌+◌, ◌≤◌, List, [], ◌∷◌, ◌++◌, drop, length, nat_eq, reverse, take}
use Rattle.std.specs.List.{IsDistinct}
use Rattle.std.specs.Map.{keys_of}
use Rattle.kept_values.specs.LastUsed.{AreGiven}

-- the numbers of the values go up by one from the first
unfoldable pub IsRow : {V : Type 0} → (V → ℕ) → ℕ → List (ℕ × V) → Type 0
IsRow number_of first [] = Unit {0}
IsRow number_of first (e ∷ es) = (number_of e.1 ≡ first) × IsRow number_of (first + 1) es

-- the first of a row are used, and go before what lies ahead and the others, the last first
abbrev pub use_order : {V : Type 0} → List (ℕ × V) → ℕ → List (ℕ × V) → List (ℕ × V)
use_order row used rest = reverse (take used row) ++ (reverse (drop used row) ++ rest)

-- a list is the end of another
abbrev pub IsEndOf : {X : Type 0} → List X → List X → Type 0
IsEndOf {X} whole end = (gone : List X) × (whole ≡ gone ++ end)

-- what holds of a row and the values beside it
pub record IsRecent {V : Type 0} (number_of : V → ℕ) (capacity given first used : ℕ) (row rest : List (ℕ × V)) : Type 0 where
  pub numbers : IsRow number_of first row
  pub within : used ≤ length row
  pub distinct : IsDistinct nat_eq (keys_of (reverse row ++ rest))
  pub known : AreGiven given (reverse row ++ rest)
  pub fits : length row + length rest ≤ capacity
