-- The lines of a text, and its parts before and after a byte.
use Rattle.std.specs.Prelude.{ℕ, ◌==◌, Bool, List, [], ◌∷◌, nat_lt, if◌then◌else◌, length, Option, Some, None}
use Rattle.std.specs.List.{position_or_len, before_first, after_first, onto_first, count_by}

-- the byte LF
abbrev pub line_feed : ℕ
line_feed = 10

-- the byte CR
abbrev pub carriage_return : ℕ
carriage_return = 13

-- a CR
abbrev pub is_cr : ℕ → Bool
is_cr b = b == carriage_return

-- what stands before the first b and what stands after it, where there is one
unfoldable pub split_once : ℕ → List ℕ → Option (List ℕ × List ℕ)
split_once b text =
    if nat_lt (position_or_len (λ c. c == b) text) (length text)
    then Some (before_first (λ c. c == b) text, after_first (λ c. c == b) text)
    else None

-- the lines, each without its LF; what follows the last LF is a line where it isn't empty
unfoldable pub lines_of : List ℕ → List (List ℕ)
lines_of [] = []
lines_of (b ∷ bs) = if b == line_feed then [] ∷ lines_of bs else onto_first b (lines_of bs)

-- how many lines a text has, each ended by LF
abbrev pub line_count : List ℕ → ℕ
line_count text = count_by (λ b. b == line_feed) text
