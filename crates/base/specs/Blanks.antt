-- Blanks, which are spaces and tabs, at the ends of a text.
use Rattle.std.specs.Prelude.{ℕ, ◌-◌, ◌==◌, Bool, ◌||◌, List, length, take, drop}
use Rattle.std.specs.List.{prefix_len, suffix_len, list_all}
use Rattle.std.specs.Str.{byte}

-- the byte of a tab
abbrev pub tab : ℕ
tab = 9

-- a space or a tab
abbrev pub is_blank : ℕ → Bool
is_blank b = (b == byte " ") || (b == tab)

-- blanks alone, or nothing
abbrev pub is_blank_line : List ℕ → Bool
is_blank_line line = list_all is_blank line

-- a text without what passes at its start
abbrev pub trim_start : (ℕ → Bool) → List ℕ → List ℕ
trim_start p text = drop (prefix_len p text) text

-- a text without what passes at its end
abbrev pub trim_end : (ℕ → Bool) → List ℕ → List ℕ
trim_end p text = take (length text - suffix_len p text) text

-- without the blanks at its start
abbrev pub without_first_blanks : List ℕ → List ℕ
without_first_blanks text = trim_start is_blank text

-- without the blanks at its end
abbrev pub without_last_blanks : List ℕ → List ℕ
without_last_blanks text = trim_end is_blank text

-- without the blanks at both ends
abbrev pub trim : List ℕ → List ℕ
trim text = without_last_blanks (without_first_blanks text)
