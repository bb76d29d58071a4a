-- Who sits at which number.
use Rattle.std.specs.Prelude.{ℕ, ◌+◌, List, [], ◌∷◌, Option, Some, None, slice_index_or}
use Rattle.std.specs.BTreeMap.{is_at}
use Rattle.std.specs.Map.{lookup}
use Rattle.std.specs.Ordering.{nat_cmp}
use Rattle.co_dict.specs.Shapes.{Shaped}
use Rattle.pdo_stations.specs.declared.as_made.AsMade.{AsMade}

-- what sits at numbers from a first one on, each with its number
abbrev pub seats_by_number : ℕ → List (Option Shaped) → List (ℕ × Shaped)
seats_by_number first [] = []
seats_by_number first (None ∷ seats) = seats_by_number (first + 1) seats
seats_by_number first (Some shape ∷ seats) = (first, shape) ∷ seats_by_number (first + 1) seats

-- the entries of a node, and its dummies
abbrev pub shape_at : List (ℕ × Shaped) → ℕ → Option Shaped
shape_at stations node = lookup (is_at (nat_cmp node)) stations

-- each device as its vendor made it, by the node's number
abbrev pub made_at : List (Option AsMade) → ℕ → Option AsMade
made_at makes node = slice_index_or makes node None
