-- The least of a list of numbers.
use Rattle.std.specs.Prelude.{ℕ, ◌<◌, ◌≤◌, max, List, slice_index}

-- the place of the first of the least among the first `count`, and 0 where there are none
pub record IsFirstLeast (numbers : List ℕ) (count place : ℕ) : Type 0 where
  pub within : place < max 1 count
  pub before : (k : ℕ) → k < place → slice_index numbers place < slice_index numbers k
  pub least : (k : ℕ) → k < count → slice_index numbers place ≤ slice_index numbers k
