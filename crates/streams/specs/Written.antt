-- What a writer has taken, where its bytes are known. `Appends old new text` of std: this text, and nothing else.
use Rattle.std.specs.Prelude.{◌≡◌, ℕ, List, ◌++◌, Option}
use Rattle.std.specs.Io.KnownBytes.{Appends}

-- a front of this text was written, and nothing else
abbrev pub Took : Option (List ℕ) → Option (List ℕ) → List ℕ → Type 0
Took old new text = (front : List ℕ) × (rest : List ℕ) × (text ≡ front ++ rest) × Appends old new front

-- this text was posted, behind the text that waited: what was written, and then what waits now, is what waited before,
-- and then this text
abbrev pub Posts : Option (List ℕ) → List ℕ → Option (List ℕ) → List ℕ → List ℕ → Type 0
Posts old waited new waits text = (sent : List ℕ) × (waited ++ text ≡ sent ++ waits) × Appends old new sent
