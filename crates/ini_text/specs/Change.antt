-- The sections after a value is set, and the text of sections, as CiA 306 writes INI text.
-- Own: lines end by LF alone, with no blanks round the `=` and no blank lines.
use Rattle.std.specs.Prelude.{ℕ, Bool, List, [], ◌∷◌, ◌++◌, if◌then◌else◌}
use Rattle.std.specs.List.{flat_map}
use Rattle.std.specs.Str.{byte}
use Rattle.ini_text.specs.Text.{line_feed}
use Rattle.ini_text.specs.Content.{Pair, Section, same}

-- with the first element that passes changed in its place, or else a new one last
abbrev pub change_or_add : {X : Type 0} → (X → Bool) → (X → X) → X → List X → List X
change_or_add p f new [] = new ∷ []
change_or_add p f new (x ∷ xs) = if p x then f x ∷ xs else x ∷ change_or_add p f new xs

-- with the value at the key: in its place, or last under this spelling
abbrev pub put_value : List Pair → List ℕ → List ℕ → List Pair
put_value ps key value = change_or_add (λ p. same key p.key) (λ p. record { key = p.key; value = value })
    (record { key = key; value = value }) ps

-- with the value at the key of this section
abbrev pub put_in_section : Section → List ℕ → List ℕ → Section
put_in_section s key value = record { name = s.name; pairs = put_value s.pairs key value }

-- with the value at the key of the section, which goes last where it is new
abbrev pub with_value : List Section → List ℕ → List ℕ → List ℕ → List Section
with_value ss name key value = change_or_add (λ s. same name s.name) (λ s. put_in_section s key value)
    (record { name = name; pairs = record { key = key; value = value } ∷ [] }) ss

-- `key=value` and an LF
abbrev pub pair_text : Pair → List ℕ
pair_text p = p.key ++ byte "=" ∷ p.value ++ line_feed ∷ []

-- `[name]`, an LF, and the pairs
abbrev pub section_text : Section → List ℕ
section_text s = byte "[" ∷ s.name ++ byte "]" ∷ line_feed ∷ flat_map pair_text s.pairs

-- the text of the sections, in their order
abbrev pub text_of : List Section → List ℕ
text_of ss = flat_map section_text ss
