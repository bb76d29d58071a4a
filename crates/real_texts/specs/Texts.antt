-- The values of REAL32 and REAL64 as texts: which value a text gives, and the exact decimal number of a value.
use Rattle.std.specs.Prelude.{◌≡◌, ◌⊎◌, ℕ, ◌*◌, ◌/◌, ◌%◌, ◌^◌, ◌==◌, Bool, nat_lt, if◌then◌else◌, List, [], ◌∷◌, ◌++◌}
use Rattle.std.specs.Prelude.{Option, option_map, option_and_then}
use Rattle.std.specs.Int.{IsInRange}
use Rattle.std.specs.Float.{Format}
use Rattle.std.specs.Float.Ieee.{ones}
use Rattle.std.specs.Float.Parse.{parse_float}
use Rattle.std.specs.Fmt.{sign_text}
use Rattle.std.specs.Str.{byte}
use Rattle.byteorder.specs.Endian.{little_bytes}
use Rattle.base.specs.Blanks.{trim_end}
use Rattle.real_texts.specs.Naturals.{low_digits, all_digits}
use Rattle.real_texts.specs.Reals.{octets, bits_in, is_negative, exponent_field, significand, doublings, places, finite_bits}

-- ---- from text

-- The bits that a text gives: those of the float nearest to the decimal number that it is, ties to even, where that is
-- finite. The other texts that `parse_float` knows, `inf`, `infinity` and `nan`, have no finite float.
unfoldable pub real_bits : Format → List ℕ → Option ℕ
real_bits f text = option_and_then (finite_bits f) (parse_float f text)

-- the bytes that a text gives
abbrev pub real_value : Format → List ℕ → Option (List ℕ)
real_value f text = option_map (little_bytes (octets f)) (real_bits f text)

-- ---- to text

-- the digit 0
abbrev pub is_zero : ℕ → Bool
is_zero d = d == byte "0"

-- digits without the zeros at their end
abbrev pub without_last_zeros : List ℕ → List ℕ
without_last_zeros digits = trim_end is_zero digits

-- a point and the digits behind it, where there are any
abbrev pub point_and : List ℕ → List ℕ
point_and [] = []
point_and (d ∷ ds) = byte "." ∷ d ∷ ds

-- The decimal number n / 2 ^ k: the digits of its whole part, and of its fraction, which is a multiple of 1 / 10 ^ k,
-- as 1 / 2 ^ k is 5 ^ k / 10 ^ k.
abbrev pub decimal_text : ℕ → ℕ → List ℕ
decimal_text n k =
    all_digits (n / 2 ^ k) ++ point_and (without_last_zeros (low_digits k (n % 2 ^ k * 5 ^ k)))

-- The exact decimal number of bits. Infinities and what is no number have no text: they are never printed.
unfoldable pub bits_text : Format → ℕ → List ℕ
bits_text f bits = if nat_lt (exponent_field f bits) (ones f)
    then sign_text (is_negative f bits) ++ decimal_text (significand f bits * 2 ^ doublings f bits) (places f bits)
    else []

-- the exact decimal number of bytes
abbrev pub exact_text : Format → List ℕ → List ℕ
exact_text f bytes = bits_text f (bits_in f bytes)

-- a byte of such a text: a digit, the point or the minus
abbrev pub IsOfNumber : ℕ → Type 0
IsOfNumber c = IsInRange (byte "0") (byte "9") c ⊎ ((c ≡ byte ".") ⊎ (c ≡ byte "-"))
