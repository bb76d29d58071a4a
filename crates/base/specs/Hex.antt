-- Bytes as lines of hexadecimal digits, as the concise DCF of a node is printed (this profile's own).
use Rattle.std.specs.Prelude.{ℕ, zero, suc, ◌+◌, ◌/◌, List, [], ◌∷◌, ◌++◌, length, take, drop}
use Rattle.std.specs.List.{flat_map}
use Rattle.std.specs.Str.{byte}
use Rattle.base.specs.Digits.{byte_digits}
use Rattle.base.specs.Lines.{line_feed}

-- a line of bytes: two upper-case digits each, a space between two of them, an LF at its end
abbrev pub hex_line : List ℕ → List ℕ
hex_line [] = []
hex_line (b ∷ []) = byte_digits b ++ line_feed ∷ []
hex_line (b ∷ c ∷ cs) = byte_digits b ++ byte " " ∷ hex_line (c ∷ cs)

-- a byte's digits with a space behind them, and what follows
abbrev pub digits_and_space : ℕ → List ℕ → List ℕ
digits_and_space b more = byte_digits b ++ byte " " ∷ more

-- the first rows of 16 bytes, the last of which may be shorter
abbrev pub rows : ℕ → List ℕ → List (List ℕ)
rows zero bytes = []
rows (suc n) bytes = take 16 bytes ∷ rows n (drop 16 bytes)

-- so many lines take 16 bytes each, the last one the rest
abbrev pub row_count : List ℕ → ℕ
row_count bytes = (length bytes + 15) / 16

-- the bytes, 16 a line
unfoldable pub hex_text : List ℕ → List ℕ
hex_text bytes = flat_map hex_line (rows (row_count bytes) bytes)
