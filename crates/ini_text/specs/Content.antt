-- The content of INI text (CiA 306): its sections with their pairs, and its warned lines.
-- Own: sections of one name are one, the first of equal keys counts, the first spelling of a name is kept, and what is
-- warned of.
use Rattle.std.specs.Prelude.{ℕ, ◌+◌, Bool, true, false, List, [], ◌∷◌, ◌++◌, ◌||◌, if◌then◌else◌, length, map, filter}
use Rattle.std.specs.Prelude.{not, Option, Some, None}
use Rattle.std.specs.List.{list_any}
use Rattle.std.specs.Option.{option_map_or}
pub use Rattle.ini_text.specs.Name.{lower_case, same}
pub use Rattle.ini_text.specs.CompactPdo.{is_misused, is_zero}
use Rattle.ini_text.specs.Line.{Line, nothing, header, pair, other, line_of}
use Rattle.ini_text.specs.Text.{lines_of, without_mark}

-- a key with its value
pub record Pair : Type 0 where
  pub key : List ℕ
  pub value : List ℕ

-- a section: its name, and its pairs in the order of their first lines
pub record Section : Type 0 where
  pub name : List ℕ
  pub pairs : List Pair

-- the sections in the order of their first headers, and the numbers of the warned lines, from 1
pub record Content : Type 0 where
  pub sections : List Section
  pub warnings : List ℕ

-- pairs with equal keys
abbrev pub same_key : Pair → Pair → Bool
same_key p q = same p.key q.key

-- the names that the headers give, in order
abbrev pub headers : List Line → List (List ℕ)
headers [] = []
headers (header name ∷ ls) = name ∷ headers ls
headers (nothing ∷ ls) = headers ls
headers (pair k v ∷ ls) = headers ls
headers (other ∷ ls) = headers ls

-- the pairs that lines under headers of a name give, in order. here: the lines before the first header are under one
abbrev pub pairs_under : List ℕ → Bool → List Line → List Pair
pairs_under name here [] = []
pairs_under name here (header n ∷ ls) = pairs_under name (same name n) ls
pairs_under name here (nothing ∷ ls) = pairs_under name here ls
pairs_under name here (pair k v ∷ ls) = if here then record { key = k; value = v } ∷ pairs_under name here ls
    else pairs_under name here ls
pairs_under name here (other ∷ ls) = pairs_under name here ls

-- each element that no earlier one equals
abbrev pub firsts : {X : Type 0} → (X → X → Bool) → List X → List X
firsts e [] = []
firsts e (x ∷ xs) = x ∷ filter (λ y. not (e x y)) (firsts e xs)

-- the section of a name: each pair that a line under a header of that name gives, and no earlier one gives its key
abbrev pub section_of : List Line → List ℕ → Section
section_of ls name = record { name = name; pairs = firsts same_key (pairs_under name false ls) }

-- a section for each name that some header gives, in the order of the first headers
unfoldable pub sections_of : List Line → List Section
sections_of ls = map (section_of ls) (firsts same (headers ls))

-- the name in the last header
abbrev pub last_header : List Line → Option (List ℕ) → Option (List ℕ)
last_header [] o = o
last_header (header name ∷ ls) o = last_header ls (Some name)
last_header (nothing ∷ ls) o = last_header ls o
last_header (pair k v ∷ ls) o = last_header ls o
last_header (other ∷ ls) o = last_header ls o

-- some line under a header of this name gives the key
abbrev pub gives_key : List Line → List ℕ → List ℕ → Bool
gives_key ls name key = list_any (λ p. same key p.key) (pairs_under name false ls)

-- a line that is skipped, or gives a key again, or gives CompactPDO another value than 0
abbrev pub is_warned : List Line → Line → Bool
is_warned before nothing = false
is_warned before (header name) = false
is_warned before (pair k v) = option_map_or (λ name. gives_key before name k || is_misused k v)
    (last_header before None) true
is_warned before other = true

-- the numbers of the warned lines, from 1, where some lines come before
abbrev pub warned_after : List Line → List Line → List ℕ
warned_after before [] = []
warned_after before (l ∷ ls) = if is_warned before l then (length before + 1) ∷ warned_after (before ++ l ∷ []) ls
    else warned_after (before ++ l ∷ []) ls

-- the numbers of the warned lines of a text
unfoldable pub warnings_of : List Line → List ℕ
warnings_of ls = warned_after [] ls

-- what the lines of a text mean
abbrev pub line_list : List ℕ → List Line
line_list text = map line_of (lines_of text)

-- the content of a text
unfoldable pub content_of : List ℕ → Content
content_of text = let ls = line_list (without_mark text)
    in record { sections = sections_of ls; warnings = warnings_of ls }

-- the value at a key: that of the first pair whose key is equal
abbrev pub value_at : List Pair → List ℕ → Option (List ℕ)
value_at [] key = None
value_at (p ∷ ps) key = if same key p.key then Some p.value else value_at ps key

-- the value at a key of a section: that in the first section whose name is equal
abbrev pub content_at : List Section → List ℕ → List ℕ → Option (List ℕ)
content_at [] name key = None
content_at (s ∷ ss) name key = if same name s.name then value_at s.pairs key else content_at ss name key
