-- The words of a line, which blanks part.
use Rattle.std.specs.Prelude.{ℕ, Bool, not, List, drop}
use Rattle.std.specs.List.{prefix_len, take_while}
use Rattle.base.specs.Blanks.{is_blank, without_first_blanks}

-- any byte but a blank
abbrev pub is_word_byte : ℕ → Bool
is_word_byte b = not (is_blank b)

-- the first word of a line, blanks before it left out; empty where there is none
unfoldable pub word : List ℕ → List ℕ
word line = take_while is_word_byte (without_first_blanks line)

-- what follows the first word
unfoldable pub after : List ℕ → List ℕ
after line = let rest = without_first_blanks line in drop (prefix_len is_word_byte rest) rest
