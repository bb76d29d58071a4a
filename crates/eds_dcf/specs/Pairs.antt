-- Pairs that are taken out of a section. Keys count in any case of letters.
use Rattle.std.specs.Prelude.{ℕ, Bool, not, List, filter}
use Rattle.ini_text.specs.Content.{Pair, same}

-- whether two keys or names are equal without ASCII case
abbrev pub is_key : List ℕ → List ℕ → Bool
is_key a b = same a b

-- the pairs whose key is another one
abbrev pub without : List ℕ → List Pair → List Pair
without key pairs = filter (λ p. not (same key p.key)) pairs
