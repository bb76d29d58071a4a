-- The nodes that messages name, as the program finds them.
use Rattle.std.specs.Prelude.{ℕ, Bool, false, List, slice_index_or}

-- a node is named
abbrev pub is_flagged : List Bool → ℕ → Bool
is_flagged flags node = slice_index_or flags node false
