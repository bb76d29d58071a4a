-- Private: tables whose keys are names without case, and the line that a pair is kept in.
use Rattle.std.specs.Prelude.{◌≡◌, ℕ, true, List, ◌∷◌, ◌++◌, ◌+◌, take, drop}
use Rattle.std.specs.Hash as fed
use Rattle.std.specs.List.{AllByRecursion}
use Rattle.std.specs.Global.{Vec}
use Rattle.std.specs.Str.{byte, bytes_eq}
use Rattle.std.specs.Cmp.Lexicographic.{bytes_decides}
use Rattle.std.proofs.Common.{ap}
use Rattle.ini_text.specs.Content.{lower_case}

-- each key is the name of its value in lower case
abbrev pub AreFolded : {X : Type 0} → (X → List ℕ) → List (Vec ℕ × X) → Type 0
AreFolded name es = AllByRecursion (λ e. e.0.items ≡ lower_case (name e.1)) es

-- what a hasher is fed for a name
abbrev pub name_writes : List ℕ → List (List ℕ)
name_writes name = fed.slice fed.u8 (lower_case name)

-- equal bytes are fed alike
pub fed_alike : (a b : List ℕ) → bytes_eq a b ≡ true → fed.slice fed.u8 a ≡ fed.slice fed.u8 b
fed_alike a b h = ap (fed.slice fed.u8) ((bytes_decides a b).0 h)

-- the line has a `=` at the position
abbrev pub IsSplit : List ℕ → ℕ → Type 0
IsSplit line i = line ≡ take i line ++ byte "=" ∷ drop (i + 1) line
