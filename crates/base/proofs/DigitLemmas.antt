-- Digits that are written, each read again.
use Rattle.std.proofs.Common.{◌≡◌, ℕ, suc, ◌+◌, ◌/◌, ◌%◌, ◌^◌, ◌<◌, ◌≤◌, Bool, true, List, [], ◌∷◌, Some, None, refl}
use Rattle.std.proofs.Common.{map, get_or, ap, ◌∙◌, inl, inr, lit<, arith}
use Rattle.std.specs.Prelude.{if◌then◌else◌, decimal}
use Rattle.std.specs.Char.{digit_value, is_digit}
use Rattle.std.specs.Fmt.{digit_glyph}
use Rattle.std.specs.List.{list_all, range_with_len}
use Rattle.std.proofs.lemmas.List.FromFn.{get_or-map-range_with_len}
use Rattle.std.specs.Str.Parse.{digits_value, AllDigits, IsNumeral}
use Rattle.std.proofs.lemmas.Bool.{cases_lt, lt-ltb, lt-leb}
use Rattle.std.proofs.lemmas.Bool.Decides.{nat_tests}
use Rattle.std.proofs.lemmas.Fmt.{decimal_is_IsNumeral_wide}
use Rattle.base.specs.declared.digits.TheConstants.{DIGIT_VALUES}
use Rattle.base.specs.Digits.{digits_number, byte_digits, index_digits, identifier_digits}

-- ---- one digit

-- the table of digits has the value of each byte
digit_table_is_rule : DIGIT_VALUES ≡ map digit_value (range_with_len 0 256)
digit_table_is_rule = refl

pub digit_value_by_table : (byte : ℕ) → byte < 256 → get_or DIGIT_VALUES byte 0 ≡ digit_value byte
digit_value_by_table byte h = ap (λ (values : List ℕ). get_or values byte 0) digit_table_is_rule
    ∙ get_or-map-range_with_len digit_value 0 256 byte byte 0 h (omega arith)

pub digit_value-glyph : (d : ℕ) → d < 16 → digit_value (digit_glyph true d) ≡ d
digit_value-glyph d h = elim (cases_lt d 10) [
  | inl low ↦ rw (lt-ltb d 10 low) (small d low)
  | inr high ↦ rw (lt-leb (suc d) 10 (omega arith)) (large d high h)
]
  where
    small : (d : ℕ) → d < 10 → digit_value (48 + d) ≡ d
    small d low = grind (arith, nat_tests)

    large : (d : ℕ) → 10 ≤ d → d < 16 → digit_value (55 + d) ≡ d
    large d high h = grind (arith, nat_tests)

pub is_digit-glyph : (d : ℕ) → d < 16 → is_digit (digit_glyph true d) 16 ≡ true
is_digit-glyph d h = rw (digit_value-glyph d h) (lt-ltb d 16 h)

pub digit_value-glyph-lt : (d : ℕ) → d < 16 → digit_value (digit_glyph true d) < 16
digit_value-glyph-lt d h = rw (digit_value-glyph d h) h

-- ---- digits

pub all_digits : (base : ℕ) (cs : List ℕ) → AllDigits base cs → list_all (λ d. is_digit d base) cs ≡ true
all_digits base [] h = refl
all_digits base (c ∷ cs) h = rw (lt-ltb (digit_value c) base h.0) (all_digits base cs h.1)

-- digits write their number
pub digits_number-numeral : (base : ℕ) (cs : List ℕ) → IsNumeral base cs
    → digits_number base cs ≡ Some (digits_value base cs)
digits_number-numeral base [] h = absurd (omega (arith, h.0))
digits_number-numeral base (c ∷ cs) h = ap (λ (b : Bool). if b then Some (digits_value base (c ∷ cs)) else None)
    (all_digits base (c ∷ cs) h.1)

pub byte_is_digits : (n : ℕ) → n ≤ 255 → AllDigits 16 (byte_digits n)
byte_is_digits n h = (digit_value-glyph-lt (n / 16) (omega arith), (digit_value-glyph-lt (n % 16) (omega arith), tt))

pub index_is_digits : (n : ℕ) → n ≤ 65535 → AllDigits 16 (index_digits n)
index_is_digits n h = (
  digit_value-glyph-lt (n / 4096) (omega arith),
  (
    digit_value-glyph-lt (n / 256 % 16) (omega arith),
    (digit_value-glyph-lt (n / 16 % 16) (omega arith), (digit_value-glyph-lt (n % 16) (omega arith), tt)),
  ),
)

pub identifier_is_digits : (n : ℕ) → n ≤ 4095 → AllDigits 16 (identifier_digits n)
identifier_is_digits n h = (
  digit_value-glyph-lt (n / 256) (omega arith),
  (digit_value-glyph-lt (n / 16 % 16) (omega arith), (digit_value-glyph-lt (n % 16) (omega arith), tt)),
)

byte_value : (n : ℕ) → n ≤ 255 → digits_value 16 (byte_digits n) ≡ n
byte_value n h = rw (digit_value-glyph (n / 16) (omega arith), digit_value-glyph (n % 16) (omega arith)) (omega arith)

index_value : (n : ℕ) → n ≤ 65535 → digits_value 16 (index_digits n) ≡ n
index_value n h =
    rw (
      digit_value-glyph (n / 4096) (omega arith),
      digit_value-glyph (n / 256 % 16) (omega arith),
      digit_value-glyph (n / 16 % 16) (omega arith),
      digit_value-glyph (n % 16) (omega arith),
    ) (omega arith)

identifier_value : (n : ℕ) → n ≤ 4095 → digits_value 16 (identifier_digits n) ≡ n
identifier_value n h =
    rw (
      digit_value-glyph (n / 256) (omega arith),
      digit_value-glyph (n / 16 % 16) (omega arith),
      digit_value-glyph (n % 16) (omega arith),
    ) (omega arith)

-- the digits of a byte, an index, an identifier or a number are read as that
pub byte_again : (n : ℕ) → n ≤ 255 → digits_number 16 (byte_digits n) ≡ Some n
byte_again n h = digits_number-numeral 16 (byte_digits n) (lit< tt, byte_is_digits n h) ∙ ap Some (byte_value n h)

pub index_again : (n : ℕ) → n ≤ 65535 → digits_number 16 (index_digits n) ≡ Some n
index_again n h = digits_number-numeral 16 (index_digits n) (lit< tt, index_is_digits n h) ∙ ap Some (index_value n h)

pub identifier_again : (n : ℕ) → n ≤ 4095 → digits_number 16 (identifier_digits n) ≡ Some n
identifier_again n h = digits_number-numeral 16 (identifier_digits n) (lit< tt, identifier_is_digits n h)
    ∙ ap Some (identifier_value n h)

pub decimal_again : (n : ℕ) → n < 10 ^ 64 → digits_number 10 (decimal n) ≡ Some n
decimal_again n h = let is = decimal_is_IsNumeral_wide n h in digits_number-numeral 10 (decimal n) is.0 ∙ ap Some is.1

pub ruleset digit_laws = (byte_again, index_again, identifier_again, decimal_again)
