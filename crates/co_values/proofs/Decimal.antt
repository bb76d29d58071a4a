-- What the decimal digits of a number spell.
use Rattle.std.proofs.Common.{◌≡◌, ℕ, zero, suc, ◌^◌, ◌<◌, ◌≤◌, Bool, true, false, List, [], ◌∷◌, get_or, Option, Some}
use Rattle.std.proofs.Common.{None, refl, ap, lit<, lit≤, arith, pos, negsuc}
use Rattle.std.specs.Prelude.{◌&&◌, ◌==◌, if◌then◌else◌, option_map, neg_ℤ, decimal}
use Rattle.std.specs.Char.{digit_value}
use Rattle.std.specs.Fmt.{signed_decimal}
use Rattle.std.specs.Str.Parse.{AllDigits, IsNumeral}
use Rattle.std.proofs.lemmas.Bool.{lt-ltb, ne_eqb}
use Rattle.std.proofs.lemmas.Fmt.{decimal_is_IsNumeral, decimal_digit, first_decimal}
use Rattle.base.specs.Digits.{digits_number}
use Rattle.base.proofs.DigitLemmas.{decimal_again}
use Rattle.co_values.specs.Number.{hexadecimal, octal, unsigned_number, signed_number, number}

-- ---- decimal digits

-- a byte that is no decimal digit
other : (c byte : ℕ) → digit_value c < 10 → 10 ≤ digit_value byte → (c == byte) ≡ false
other c byte digit none = ne_eqb c byte (λ (same : c ≡ byte). omega (arith, ap digit_value same))

hexadecimal-numeral : (cs : List ℕ) → AllDigits 10 cs → hexadecimal cs ≡ None
hexadecimal-numeral [] h = refl
hexadecimal-numeral (a ∷ []) h = refl
hexadecimal-numeral (a ∷ x ∷ cs) h =
    rw (other x 120 h.1.0 (lit≤ tt), other x 88 h.1.0 (lit≤ tt)) (never (a == 48) (digits_number 16 cs))
  where
    never : (b : Bool) (o : Option ℕ) → (if b && false then o else None) ≡ None
    never true o = refl
    never false o = refl

octal-numeral : (cs : List ℕ) → 48 < get_or cs 0 0 → octal cs ≡ None
octal-numeral [] h = refl
octal-numeral (a ∷ cs) h = ap (λ (b : Bool). if b then digits_number 8 cs else None)
    (ne_eqb a 48 (λ (same : a ≡ 48). omega arith))

-- the digits of a number spell it
pub unsigned_number-decimal : (n : ℕ) → n < 2 ^ 64 → unsigned_number (decimal n) ≡ Some n
unsigned_number-decimal zero h = rw (decimal_digit 0 (lit< tt)) refl
unsigned_number-decimal (suc n) h =
    let is = decimal_is_IsNumeral (suc n) h in
    let hex = hexadecimal-numeral (decimal (suc n)) is.0.1 in
    let oct = octal-numeral (decimal (suc n)) (first_decimal (suc n) (omega arith) h) in
    rw (hex, oct, decimal_again (suc n) (omega arith)) refl

-- digits have no sign in front
signed_number-numeral : (cs : List ℕ) → IsNumeral 10 cs → signed_number cs ≡ option_map pos (unsigned_number cs)
signed_number-numeral [] h = absurd (omega (arith, h.0))
signed_number-numeral (c ∷ cs) h = ap (λ (b : Bool). if b then option_map (λ n. neg_ℤ (pos n)) (unsigned_number cs)
    else option_map pos (unsigned_number (c ∷ cs))) (other c 45 h.1.0 (lit≤ tt))

-- the decimal text of a number spells it, to 2^64 - 1 and from -2^63
pub number-decimal : (n : ℕ) → n < 2 ^ 64 → number (decimal n) ≡ Some (pos n)
unfolding number
number-decimal n h =
    let is = decimal_is_IsNumeral n h in
    rw (signed_number-numeral (decimal n) is.0, unsigned_number-decimal n h, lt-ltb n (2 ^ 64) h) refl

pub number-negative : (n : ℕ) → n < 2 ^ 63 → number (signed_decimal (negsuc n)) ≡ Some (negsuc n)
unfolding number
number-negative n h = rw (unsigned_number-decimal (suc n) (omega arith), lt-ltb n (2 ^ 63) h) refl

pub ruleset decimal_laws = (number-decimal, number-negative)
