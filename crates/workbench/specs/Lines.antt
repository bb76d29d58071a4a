-- An input as its lines, for the laws.
use Rattle.std.specs.Prelude.{◌≡◌, ℕ, ◌==◌, Bool, false, List, [], ◌∷◌, ◌++◌}
use Rattle.std.specs.List.{list_any, flat_map}
use Rattle.base.specs.Lines.{line_feed}

-- whether some byte is an LF
abbrev pub has_break : List ℕ → Bool
has_break bytes = list_any (λ b. b == line_feed) bytes

-- none of them has an LF
abbrev pub AreLines : List (List ℕ) → Type 0
AreLines lines = list_any has_break lines ≡ false

-- the lines, each ended by LF
abbrev pub with_breaks : List (List ℕ) → List ℕ
with_breaks lines = flat_map (λ line. line ++ line_feed ∷ []) lines

-- a last line that the end of the input ends, where it isn't empty
abbrev pub if_some : List ℕ → List (List ℕ)
if_some [] = []
if_some (b ∷ bs) = (b ∷ bs) ∷ []
