-- What a line of INI text means (CiA 306): a header `[name]`, a key and a value `key=value`, or a comment begun by `;`.
-- Own: what follows the `]` of a header is ignored, and a line that is no header may still be a key and a value.
use Rattle.std.specs.Prelude.{ℕ, List, [], ◌∷◌, ◌==◌, if◌then◌else◌, Option, Some, None}
use Rattle.std.specs.Option.{option_and_then}
use Rattle.std.specs.Str.{byte}
use Rattle.ini_text.specs.Text.{trim_line, split_once}

-- nothing; a header with its name; a key and a value; anything else
pub data Line : Type 0 where
  nothing : Line
  header : List ℕ → Line
  pair : List ℕ → List ℕ → Line
  other : Line

-- the bytes, if there are any
abbrev pub unless_empty : List ℕ → Option (List ℕ)
unless_empty [] = None
unless_empty (b ∷ bs) = Some (b ∷ bs)

-- the name in a trimmed line that begins with `[`, has a `]`, and something but blanks between them
unfoldable pub header_name : List ℕ → Option (List ℕ)
header_name [] = None
header_name (b ∷ bs) = if b == byte "[" then option_and_then (λ p. unless_empty (trim_line p.0))
    (split_once (byte "]") bs) else None

-- the key and the value in a trimmed line that has `=` with a key before the first one
unfoldable pub key_value : List ℕ → Option (List ℕ × List ℕ)
key_value line = option_and_then (λ p. option_and_then (λ k. Some (k, trim_line p.1)) (unless_empty (trim_line p.0)))
    (split_once (byte "=") line)

-- a key and a value, or anything else
abbrev pub pair_or_other : Option (List ℕ × List ℕ) → Line
pair_or_other None = other
pair_or_other (Some p) = pair p.0 p.1

-- a header, or else what the line means otherwise
abbrev pub header_or : Option (List ℕ) → Line → Line
header_or None line = line
header_or (Some name) line = header name

-- what a trimmed line means
abbrev pub meaning : List ℕ → Line
meaning [] = nothing
meaning (b ∷ bs) = if b == byte ";" then nothing
    else header_or (header_name (b ∷ bs)) (pair_or_other (key_value (b ∷ bs)))

-- what a line means
unfoldable pub line_of : List ℕ → Line
line_of line = meaning (trim_line line)
