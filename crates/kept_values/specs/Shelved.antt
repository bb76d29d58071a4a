-- Values kept with what they were built from, and which of them need no look.
use Rattle.std.specs.Prelude.{ℕ, Bool, false, List, Option, slice_index_or}
use Rattle.kept_values.specs.At.{at}

-- the inputs at each number, and for each number whether they are known to be those of now: whether it has no mark
pub record Shelved (I : Type 0) : Type 0 where
  pub kept : List (ℕ × I)
  pub fresh : List Bool

-- a number is flagged
abbrev pub is_flagged : List Bool → ℕ → Bool
is_flagged flags n = slice_index_or flags n false

module _ {I : Type 0} where
  -- the inputs at a number
  abbrev pub kept_at : Shelved I → ℕ → Option I
  kept_at shelf n = at shelf.kept n

  -- they are known to be those of now; a number that has no flag has a mark
  abbrev pub is_fresh : Shelved I → ℕ → Bool
  is_fresh shelf n = slice_index_or shelf.fresh n false

-- the inputs of one value, and whether they are known to be those of now
pub record Single (I : Type 0) : Type 0 where
  pub kept : Option I
  pub fresh : Bool
