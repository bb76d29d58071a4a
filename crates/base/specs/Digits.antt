-- Numbers as digits write them, and digits of numbers.
use Rattle.std.specs.Prelude.{ℕ, ◌/◌, ◌%◌, ◌^◌, min, true, if◌then◌else◌, List, [], ◌∷◌, Option, Some, None, option_map}
use Rattle.std.specs.Char.{is_digit}
use Rattle.std.specs.Fmt.{digit_glyph}
use Rattle.std.specs.List.{list_all}
use Rattle.std.specs.Str.Parse.{digits_value}

-- the number that digits write to a base, letters in any case: one digit or more, and nothing else
abbrev pub digits_number : ℕ → List ℕ → Option ℕ
digits_number base [] = None
digits_number base (c ∷ cs) = if list_all (λ d. is_digit d base) (c ∷ cs) then Some (digits_value base (c ∷ cs))
    else None

-- a number cut at 2^64, so that any digits can be read
abbrev pub within_cap : Option ℕ → Option ℕ
within_cap o = option_map (λ n. min n (2 ^ 64)) o

-- a byte as two upper-case hexadecimal digits
abbrev pub byte_digits : ℕ → List ℕ
byte_digits n = digit_glyph true (n / 16) ∷ digit_glyph true (n % 16) ∷ []

-- an index as four upper-case hexadecimal digits
abbrev pub index_digits : ℕ → List ℕ
index_digits n = digit_glyph true (n / 4096) ∷ digit_glyph true (n / 256 % 16) ∷ digit_glyph true (n / 16 % 16)
    ∷ digit_glyph true (n % 16) ∷ []

-- an identifier of 11 bits as three upper-case hexadecimal digits
abbrev pub identifier_digits : ℕ → List ℕ
identifier_digits n = digit_glyph true (n / 256) ∷ digit_glyph true (n / 16 % 16) ∷ digit_glyph true (n % 16) ∷ []
