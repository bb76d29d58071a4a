-- What the text of a value has: digits, a point and a minus, and how many.
use Rattle.std.proofs.Common.{◌≡◌, ℕ, suc, ◌+◌, ◌-◌, ◌*◌, ◌/◌, ◌%◌, ◌^◌, ◌<◌, ◌≤◌, Bool, true, false, cond, List, [], ◌∷◌, ◌++◌, length}
use Rattle.std.proofs.Common.{refl, ap, ◌∙◌, arith, inl, inr, lit<, lit≤, eq-zero-or-pos, length-append, lt-ltb, le-ltb, mul-one, div-le_self, lt_of_lt_of_le, lt_of_mul-lt-mul_right, pow-add, pow_mono, le_trans}
use native.Mathlib.Nat.{pow-zero}
use lib.Ieee.{Format, binary32, binary64, prec, emax, low, ones}
use Rattle.std.proofs.lemmas.Bool.{cases_lt}
use Rattle.std.proofs.lemmas.Int.Digits.{length-digits_of-le}
use Rattle.std.proofs.lemmas.Str.Parse.{digit_from_value}
use Rattle.std.specs.Fmt.{sign_text}
use Rattle.std.specs.Int.Digits.{digits_of}
use Rattle.std.specs.List.{AllByRecursion}
use Rattle.std.specs.Prelude.{nat_lt}
use Rattle.std.specs.Str.Parse.{AllDigits}
use Rattle.real_texts.specs.Naturals.{low_digits, all_digits}
use Rattle.real_texts.specs.Reals.{AreFinite, IsFinite, bits_in, exponent_field, significand, doublings, places, is_negative}
use Rattle.real_texts.specs.Texts.{IsOfNumber, without_last_zeros, point_and, decimal_text, bits_text, exact_text}
use Rattle.real_texts.proofs.Digits.{length-low_digits}
use Rattle.real_texts.proofs.ReadBack.{all_digits-low, all_digits-AreDigitsOf, fraction_is, number_fits, point_is, significand-lt}

-- ---- its bytes

of_digits : (ds : List ℕ) → AllDigits 10 ds → AllByRecursion IsOfNumber ds
of_digits [] h = tt
of_digits (d ∷ ds) h = (inl (digit_from_value d h.0), of_digits ds h.1)

all_both : (xs ys : List ℕ) → AllByRecursion IsOfNumber xs → AllByRecursion IsOfNumber ys → AllByRecursion IsOfNumber (xs ++ ys)
all_both [] ys p q = q
all_both (x ∷ xs) ys p q = (p.0, all_both xs ys p.1 q)

of_fraction : (ds : List ℕ) → AllByRecursion IsOfNumber ds → AllByRecursion IsOfNumber (point_and ds)
of_fraction [] h = tt
of_fraction (d ∷ ds) h = (inr (inl refl), h)

of_sign : (negative : Bool) → AllByRecursion IsOfNumber (sign_text negative)
of_sign true = (inr (inr refl), tt)
of_sign false = tt

of_decimal : (n k : ℕ) → AllByRecursion IsOfNumber (decimal_text n k)
of_decimal n k =
    let whole = all_digits (n / 2 ^ k) in
    let r = n % 2 ^ k * 5 ^ k in
    all_both whole _ (of_digits whole (all_digits-AreDigitsOf (n / 2 ^ k)).digits)
    (of_fraction (without_last_zeros (low_digits k r)) (of_digits _ (fraction_is whole k r).digits))

-- nothing, or what a number has
either : (P : List ℕ → Type 0) (b : Bool) (text : List ℕ) → P text → P [] → P (cond b text [])
either P true text p q = p
either P false text p q = q

pub bytes_are : (f : Format) (bytes : List ℕ) → AllByRecursion IsOfNumber (exact_text f bytes)
unfolding bits_text
bytes_are f bytes =
    let bits = bits_in f bytes in
    either (AllByRecursion IsOfNumber) (nat_lt (exponent_field f bits) (ones f)) _
    (all_both (sign_text (is_negative f bits)) _ (of_sign (is_negative f bits)) (of_decimal (significand f bits * 2 ^ doublings f bits) (places f bits))) tt

-- ---- how many

sign_length : (negative : Bool) → length (sign_text negative) ≤ 1
sign_length true = omega arith
sign_length false = omega arith

point_length : (ds : List ℕ) (k : ℕ) → length ds ≤ k → length (point_and ds) ≤ 1 + k
point_length [] k h = omega arith
point_length (d ∷ ds) k h = omega arith

all_digits_length : (w n : ℕ) → 0 < w → n < 10 ^ w → length (all_digits n) ≤ w
all_digits_length w n some h = elim (eq-zero-or-pos n) [
  | inl z ↦ rw z (omega arith)
  | inr p ↦ rw (all_digits-low n p, length-low_digits (length (digits_of 10 n)) n) (length-digits_of-le 10 w n (lit≤ tt) h)
]

decimal_length : (n k w : ℕ) → 0 < w → n < 10 ^ w → length (decimal_text n k) ≤ w + 1 + k
decimal_length n k w some h =
    let whole = all_digits (n / 2 ^ k) in
    let r = n % 2 ^ k * 5 ^ k in
    let small = all_digits_length w (n / 2 ^ k) some (omega (arith, div-le_self n (2 ^ k))) in
    omega (arith, small, length-append whole (point_and (without_last_zeros (low_digits k r))), point_length (without_last_zeros (low_digits k r)) k (fraction_is whole k r).short)

low_most : (f : Format) → low f ≤ 1074
low_most binary32 = lit≤ tt
low_most binary64 = lit≤ tt

prec_most : (f : Format) → prec f ≤ 53
prec_most binary32 = lit≤ tt
prec_most binary64 = lit≤ tt

emax_most : (f : Format) → suc (emax f) ≤ 1024
emax_most binary32 = lit≤ tt
emax_most binary64 = lit≤ tt

-- with a fraction the whole part is below 2 ^ 53, and else the number is below 2 ^ 1024
number_length : (f : Format) (bits : ℕ) → AreFinite f bits → length (decimal_text (significand f bits * 2 ^ doublings f bits) (places f bits)) ≤ 1091
number_length f bits finite =
    let m = significand f bits in
    elim (cases_lt (low f) (exponent_field f bits - 1)) [
      | inl l ↦
          let k : places f bits ≡ 0 = omega arith in
          let scaled : m * 2 ^ doublings f bits * 2 ^ low f < 2 ^ suc (emax f) * 2 ^ low f =
          omega (arith, number_fits f bits finite, ap (λ x. m * x) (point_is f bits), ap (λ x. m * 2 ^ (exponent_field f bits - 1) * 2 ^ x) k, pow-zero 2, pow-add 2 (low f) (suc (emax f))) in
          let most : 2 ^ suc (emax f) ≤ 10 ^ 309 = le_trans (pow_mono (emax_most f)) (lit≤ tt) in
          let small : m * 2 ^ doublings f bits < 10 ^ 309 = lt_of_lt_of_le (lt_of_mul-lt-mul_right (2 ^ low f) scaled) most in
          omega (arith, decimal_length (m * 2 ^ doublings f bits) (places f bits) 309 (lit< tt) small)
      | inr g ↦
          let d : doublings f bits ≡ 0 = omega arith in
          let plain : m * 2 ^ doublings f bits ≡ m = ap (λ x. m * 2 ^ x) d ∙ mul-one m in
          let most : 2 ^ prec f ≤ 10 ^ 16 = le_trans (pow_mono (prec_most f)) (lit≤ tt) in
          let small : m < 10 ^ 16 = lt_of_lt_of_le (significand-lt f bits) most in
          rw plain (omega (arith, decimal_length m (places f bits) 16 (lit< tt) small, low_most f))
    ]

pub texts_are_short : (f : Format) (bytes : List ℕ) → length (exact_text f bytes) ≤ 1092
unfolding bits_text
texts_are_short f bytes =
    let bits = bits_in f bytes in
    let decimal = decimal_text (significand f bits * 2 ^ doublings f bits) (places f bits) in
    elim (cases_lt (exponent_field f bits) (ones f)) [
      | inl l ↦ rw (lt-ltb (exponent_field f bits) (ones f) l) (omega (arith, length-append (sign_text (is_negative f bits)) decimal, sign_length (is_negative f bits), number_length f bits l))
      | inr g ↦ rw (le-ltb (exponent_field f bits) (ones f) g) (omega arith)
    ]

pub finite_are_some : (f : Format) (bytes : List ℕ) → IsFinite f bytes → 0 < length (exact_text f bytes)
unfolding bits_text
finite_are_some f bytes finite =
    let bits = bits_in f bytes in
    let n = significand f bits * 2 ^ doublings f bits in
    let k = places f bits in
    rw (lt-ltb (exponent_field f bits) (ones f) finite)
    (omega (arith, length-append (sign_text (is_negative f bits)) (decimal_text n k), length-append (all_digits (n / 2 ^ k)) (point_and (without_last_zeros (low_digits k (n % 2 ^ k * 5 ^ k)))), (all_digits-AreDigitsOf (n / 2 ^ k)).some))
