-- What pairs of upper-case hexadecimal digits spell.
use Rattle.std.proofs.Common.{◌≡◌, ℕ, suc, ◌+◌, ◌-◌, ◌*◌, ◌/◌, ◌%◌, ◌^◌, ◌<◌, ◌≤◌, true, List, [], ◌∷◌, ◌++◌, length}
use Rattle.std.proofs.Common.{reverse, Some, refl, sym, ap, ◌∙◌, inl, inr, lit<, arith, pos}
use Rattle.std.specs.Prelude.{codes}
use Rattle.std.specs.Char.{digit_value}
use Rattle.std.specs.Fmt.{digit_glyph}
use Rattle.std.specs.Str.Parse.{digits_value, digits_value_after, AllDigits, IsNumeral}
use Rattle.std.proofs.lemmas.Bool.{cases_lt, lt-ltb}
use Rattle.std.proofs.lemmas.List.{reverse-append, get_or-reverse, length-reverse, get_or_past}
use Rattle.std.proofs.Math.Nat.{pow-le-pow_right}
use Rattle.byteorder.specs.Endian.{little_number}
use Rattle.byteorder.specs.Numbers.{little_from-cons, little_from-lt}
use Rattle.base.specs.Bytes.{AreBytes}
use Rattle.base.specs.Digits.{digits_number}
use Rattle.base.proofs.DigitLemmas.{digit_value-glyph, digit_value-glyph-lt, is_digit-glyph, digits_number-numeral}
use Rattle.co_values.specs.Number.{number}
use Rattle.co_values.specs.Values.{pairs_of, pair_number, bytes_of_pairs}

-- the digits of a byte write it
pair-of : (b : ℕ) → b < 256 → pair_number (digit_glyph true (b / 16)) (digit_glyph true (b % 16)) ≡ b
pair-of b h = rw (digit_value-glyph (b / 16) (omega arith), digit_value-glyph (b % 16) (omega arith)) (omega arith)

-- ---- bytes

-- what pairs of digits write again
pub bytes_of_pairs-pairs_of : (bytes : List ℕ) → AreBytes bytes → bytes_of_pairs (pairs_of bytes) ≡ Some bytes
bytes_of_pairs-pairs_of [] h = refl
bytes_of_pairs-pairs_of (b ∷ bytes) h =
    let low : b < 256 = h 0 in
    let again : bytes_of_pairs (pairs_of bytes) ≡ Some bytes = bytes_of_pairs-pairs_of bytes (λ i. h (suc i)) in
    rw (is_digit-glyph (b / 16) (omega arith), is_digit-glyph (b % 16) (omega arith), again, pair-of b low) refl

-- ---- the digits of a number

length-pairs_of : (bytes : List ℕ) → length (pairs_of bytes) ≡ 2 * length bytes
length-pairs_of [] = refl
length-pairs_of (b ∷ bytes) = let rest = length-pairs_of bytes in omega (arith, rest)

digits-pairs_of : (bytes : List ℕ) → AreBytes bytes → AllDigits 16 (pairs_of bytes)
digits-pairs_of [] h = tt
digits-pairs_of (b ∷ bytes) h =
    let low : b < 256 = h 0 in (
      digit_value-glyph-lt (b / 16) (omega arith),
      (digit_value-glyph-lt (b % 16) (omega arith), digits-pairs_of bytes (λ i. h (suc i))),
    )

-- the digits of more bytes follow those of the first
value-append : (n : ℕ) (xs ys : List ℕ) → digits_value_after 16 n (pairs_of (xs ++ ys))
    ≡ digits_value_after 16 (digits_value_after 16 n (pairs_of xs)) (pairs_of ys)
value-append n [] ys = refl
value-append n (x ∷ xs) ys =
    value-append ((n * 16 + digit_value (digit_glyph true (x / 16))) * 16 + digit_value (digit_glyph true (x % 16))) xs
    ys

value-push : (n b : ℕ) → b < 256
    → (n * 16 + digit_value (digit_glyph true (b / 16))) * 16 + digit_value (digit_glyph true (b % 16)) ≡ b + 256 * n
value-push n b h = rw (digit_value-glyph (b / 16) (omega arith), digit_value-glyph (b % 16) (omega arith)) (omega arith)

-- the digits of the bytes, the highest first, write the number whose lowest byte is the first
pub digits_value-pairs_of : (bytes : List ℕ) → AreBytes bytes
    → digits_value 16 (pairs_of (reverse bytes)) ≡ little_number (length bytes) bytes
digits_value-pairs_of [] h = refl
digits_value-pairs_of (b ∷ bytes) h =
    let back : reverse (b ∷ bytes) ≡ reverse bytes ++ b ∷ [] = reverse-append (b ∷ []) bytes in
    let rest = digits_value-pairs_of bytes (λ i. h (suc i)) in
    let number : little_number (suc (length bytes)) (b ∷ bytes) ≡ b + 256 * little_number (length bytes) bytes =
    ap (λ (r : ℕ). b + 256 * r) (little_from-cons 0 (length bytes) b bytes) in
    ap (λ (xs : List ℕ). digits_value 16 (pairs_of xs)) back
    ∙ value-append 0 (reverse bytes) (b ∷ [])
    ∙ ap (λ (n : ℕ). (n * 16 + digit_value (digit_glyph true (b / 16))) * 16 + digit_value (digit_glyph true (b % 16)))
    rest
    ∙ value-push (little_number (length bytes) bytes) b (h 0)
    ∙ sym number

AreBytes-reverse : (bytes : List ℕ) → AreBytes bytes → AreBytes (reverse bytes)
AreBytes-reverse bytes h i = elim (cases_lt i (length bytes)) [
  | inl within ↦ rw (get_or-reverse bytes i 0 within) (h (length bytes - 1 - i))
  | inr past ↦ rw (get_or_past (reverse bytes) i 0 (omega (arith, length-reverse bytes))) (lit< tt)
]

-- `0x` and all digits of a number spell it
pub number-hexadecimal : (bytes : List ℕ) → 0 < length bytes → length bytes ≤ 8 → AreBytes bytes
    → number (codes "0x" ++ pairs_of (reverse bytes)) ≡ Some (pos (little_number (length bytes) bytes))
unfolding number
number-hexadecimal bytes some few h =
    let numeral : IsNumeral 16 (pairs_of (reverse bytes)) = (
      omega (arith, length-pairs_of (reverse bytes), length-reverse bytes),
      digits-pairs_of (reverse bytes) (AreBytes-reverse bytes h),
    ) in
    let digits : digits_number 16 (pairs_of (reverse bytes))
    ≡ Some (little_number (length bytes) bytes) = digits_number-numeral 16 (pairs_of (reverse bytes)) numeral
    ∙ ap Some (digits_value-pairs_of bytes h) in
    let top = little_from-lt 0 (length bytes) bytes h in
    let most : 256 ^ length bytes ≤ 256 ^ 8 = pow-le-pow_right {n = 256} (lit< tt) few in
    rw (digits, lt-ltb (little_number (length bytes) bytes) (2 ^ 64) (omega (arith, top, most))) refl

pub ruleset hexadecimal_laws = (bytes_of_pairs-pairs_of, number-hexadecimal)
