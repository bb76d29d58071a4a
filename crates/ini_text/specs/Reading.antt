-- Private machinery: what the program that reads knows after some lines, and after one more. `Content` says what they
-- amount to.
use Rattle.std.specs.Prelude.{ℕ, zero, suc, ◌+◌, Bool, true, false, List, [], ◌∷◌, ◌++◌, ◌||◌, if◌then◌else◌, slice_get}
use Rattle.std.specs.Prelude.{Option, None, Some}
use Rattle.std.specs.List.{list_any, position_or_len}
use Rattle.std.specs.Option.{option_map_or}
use Rattle.ini_text.specs.Line.{Line, nothing, header, pair, other}
use Rattle.ini_text.specs.Content.{Pair, Section, Content, same, is_misused}

-- a pair has the key
abbrev pub has_key : List Pair → List ℕ → Bool
has_key ps key = list_any (λ p. same key p.key) ps

-- a section has the name
abbrev pub has_name : List Section → List ℕ → Bool
has_name ss name = list_any (λ s. same name s.name) ss

-- where the section of this name stands, or would
abbrev pub position_of : List Section → List ℕ → ℕ
position_of ss name = position_or_len (λ s. same name s.name) ss

-- with the pair last, unless the key is there
abbrev pub with_pair : Section → List ℕ → List ℕ → Section
with_pair s key value = if has_key s.pairs key then s
    else record { name = s.name; pairs = s.pairs ++ record { key = key; value = value } ∷ [] }

-- with a section of this name, last where it is new
abbrev pub with_name : List Section → List ℕ → List Section
with_name ss name = if has_name ss name then ss else ss ++ record { name = name; pairs = [] } ∷ []

-- with the pair in the section at the position
abbrev pub with_pair_at : List Section → ℕ → List ℕ → List ℕ → List Section
with_pair_at [] i key value = []
with_pair_at (s ∷ ss) zero key value = with_pair s key value ∷ ss
with_pair_at (s ∷ ss) (suc i) key value = s ∷ with_pair_at ss i key value

-- the section at the position has the key
abbrev pub has_key_at : List Section → ℕ → List ℕ → Bool
has_key_at ss i key = option_map_or (λ s. has_key s.pairs key) (slice_get ss i) false

-- the content so far, the position of the section that the next pair goes to, and the number of lines
pub record State : Type 0 where
  pub content : Content
  pub current : Option ℕ
  pub count : ℕ

-- the state of these parts
abbrev pub state_of : List Section → List ℕ → Option ℕ → ℕ → State
state_of ss warnings current count = record {
  content = record { sections = ss; warnings = warnings };
  current = current;
  count = count;
}

-- the sections after one more line
abbrev pub sections_after : List Section → Option ℕ → Line → List Section
sections_after ss o nothing = ss
sections_after ss o (header n) = with_name ss n
sections_after ss None (pair k v) = ss
sections_after ss (Some i) (pair k v) = with_pair_at ss i k v
sections_after ss o other = ss

-- the position after one more line
abbrev pub current_after : List Section → Option ℕ → Line → Option ℕ
current_after ss o nothing = o
current_after ss o (header n) = Some (position_of ss n)
current_after ss o (pair k v) = o
current_after ss o other = o

-- the line is warned of
abbrev pub warns : List Section → Option ℕ → Line → Bool
warns ss o nothing = false
warns ss o (header n) = false
warns ss None (pair k v) = true
warns ss (Some i) (pair k v) = has_key_at ss i k || is_misused k v
warns ss o other = true

-- the state after one more line
abbrev pub step : State → Line → State
step s l = record {
  content = record {
    sections = sections_after s.content.sections s.current l;
    warnings = if warns s.content.sections s.current l then s.content.warnings ++ (s.count + 1) ∷ []
        else s.content.warnings;
  };
  current = current_after s.content.sections s.current l;
  count = s.count + 1;
}

-- the state before the first line
abbrev pub start : State
start = record { content = record { sections = []; warnings = [] }; current = None; count = 0 }

-- the state after some lines
abbrev pub run : State → List Line → State
run s [] = s
run s (l ∷ ls) = run (step s l) ls
