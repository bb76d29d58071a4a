-- The sections that CiA 306 text can hold: those that reading what `print` writes gives again.
use Rattle.std.specs.Prelude.{◌≡◌, ℕ, ◌<◌, Bool, false, List, [], ◌∷◌, ◌++◌, ◌==◌, length, None}
use Rattle.std.specs.List.{list_any, AllByRecursion}
use Rattle.std.specs.Str.{byte}
use Rattle.ini_text.specs.Text.{line_feed, trim_line}
use Rattle.ini_text.specs.Line.{header_name}
use Rattle.ini_text.specs.Content.{Pair, Section, same, same_key, is_misused}

-- whether the byte is among the bytes
abbrev pub has_byte : ℕ → List ℕ → Bool
has_byte b bs = list_any (λ c. c == b) bs

-- whether the bytes begin with the byte
abbrev pub begins_with : ℕ → List ℕ → Bool
begins_with b [] = false
begins_with b (c ∷ cs) = c == b

-- not empty, with no space, tab or CR at its ends, with no LF and no `]`
pub record IsName (name : List ℕ) : Type 0 where
  pub some : 0 < length name
  pub trim : trim_line name ≡ name
  pub on_one_line : has_byte line_feed name ≡ false
  pub unclosed : has_byte (byte "]") name ≡ false

-- not empty, with no space, tab or CR at its ends, with no LF and no `=`, and not begun by `;`
pub record IsKey (key : List ℕ) : Type 0 where
  pub some : 0 < length key
  pub trim : trim_line key ≡ key
  pub on_one_line : has_byte line_feed key ≡ false
  pub unequal : has_byte (byte "=") key ≡ false
  pub no_comment : begins_with (byte ";") key ≡ false

-- with no space, tab or CR at its ends, and with no LF
pub record IsValue (value : List ℕ) : Type 0 where
  pub trim : trim_line value ≡ value
  pub on_one_line : has_byte line_feed value ≡ false

-- the key is one and the value is one, and `key=value` is no header
pub record IsPrintablePair (p : Pair) : Type 0 where
  pub key : IsKey p.key
  pub value : IsValue p.value
  pub no_header : header_name (p.key ++ byte "=" ∷ p.value) ≡ None

-- no element is equal to one after it
abbrev pub AreApart : {X : Type 0} → (X → X → Bool) → List X → Type 0
AreApart e [] = Unit {0}
AreApart e (x ∷ xs) = AllByRecursion (λ y. e x y ≡ false) xs × AreApart e xs

-- the name is one, the pairs can be printed, and no two keys are equal without case
pub record IsPrintableSection (s : Section) : Type 0 where
  pub name : IsName s.name
  pub pairs : AllByRecursion IsPrintablePair s.pairs
  pub apart : AreApart same_key s.pairs

-- sections with equal names
abbrev pub same_name : Section → Section → Bool
same_name s t = same s.name t.name

-- the sections can be printed, and no two names are equal without case
pub record IsPrintable (sections : List Section) : Type 0 where
  pub each : AllByRecursion IsPrintableSection sections
  pub apart : AreApart same_name sections

-- CompactPDO has no other value than 0
abbrev pub UsesNoCompactPdo : List Section → Type 0
UsesNoCompactPdo sections = AllByRecursion (λ s. AllByRecursion (λ p. is_misused p.key p.value ≡ false) s.pairs)
    sections
