-- What is printed of a finite value is read as that value.
use Rattle.std.proofs.Common.{◌≡◌, ℕ, zero, suc, ◌+◌, ◌-◌, ◌*◌, ◌/◌, ◌%◌, ◌^◌, ◌<◌, ◌≤◌, Bool, true, false, cond, true≢false, List, [], ◌∷◌, ◌++◌, length, Some}
use Rattle.std.proofs.Common.{refl, sym, ap, ◌∙◌, subst, arith, inl, inr, lit<, lit≤, pow-suc, pow-add, append_assoc, append-nil, length-append, eq-zero-or-pos, ne_eqb, eq-eqb, lt-ltb, le-leb, mod-eq_of_lt, mod-lt, div-add-mod', div-one, mul-div_cancel, mul-le-mul_right, pow_pos, pow_mono, shl_lt, mul-one, add_assoc, add-zero, lt_of_lt_of_le}
use native.Mathlib.Nat.{pow-zero, eq_of_mul-eq-mul_right}
use lib.Ieee.{Float, Format, binary32, binary64, nan, inf, fin, prec, emax, low, hid, ones, top, up, down, size, to_bits}
use lib.Ieee.Fits.{down_pos}
use lib.Ieee.Exact.{HasValue, round_exact}
use lib.Ieee.Digits.{size-lt, size-le}
use lib.Ieee.Fits.{two}
use borrow.Author.Tests.{lt-leb}
use Rattle.std.specs.Float.{float_is_finite}
use Rattle.real_texts.proofs.Limbs.{power_pos}
use Rattle.std.proofs.lemmas.Bool.{cases_lt}
use Rattle.std.proofs.lemmas.List.{reverse-append, take-append-le, take_all}
use Rattle.std.proofs.lemmas.List.Sums.{suffix_len-le-length}
use Rattle.std.proofs.lemmas.Int.Digits.{digits_value_push, digits_push, first_digits_of}
use Rattle.std.proofs.lemmas.Str.{digit_value_digit}
use Rattle.std.proofs.lemmas.Float.Parse.{parse_float-text_of}
use Rattle.std.specs.Char.{digit_value}
use Rattle.std.specs.Float.Numeral.{Parts, text_of, IsWellFormed, nearest_float}
use Rattle.std.specs.Float.Parse.{parse_float}
use Rattle.std.specs.Fmt.{sign_text}
use Rattle.std.specs.Int.Digits.{digits_of}
use Rattle.std.specs.List.{suffix_len}
use Rattle.std.specs.Str.Parse.{digits_value, AllDigits}
use Rattle.real_texts.specs.Naturals.{low_digits, all_digits}
use Rattle.real_texts.specs.Reals.{AreFinite, significand, exponent_field, doublings, places, is_negative}
use Rattle.real_texts.specs.Texts.{is_zero, without_last_zeros, point_and, bits_text, real_bits}
use Rattle.real_texts.proofs.Digits.{length-low_digits, own_digits, below_own_power, some_first, all_digits_of, ten_power, point_moved, fraction_small}

-- ---- digits and the number that they write

digit_is : (n : ℕ) → digit_value (48 + n % 10) ≡ n % 10
digit_is n = let h : n % 10 < 10 = mod-lt n (lit< tt) in omega (arith, digit_value_digit (48 + n % 10) (omega arith))

digit_small : (n : ℕ) → digit_value (48 + n % 10) < 10
digit_small n = let h : n % 10 < 10 = mod-lt n (lit< tt) in omega (arith, digit_is n)

low_digits-AllDigits : (k n : ℕ) → AllDigits 10 (low_digits k n)
low_digits-AllDigits zero n = tt
low_digits-AllDigits (suc k) n = digits_push 10 (low_digits k (n / 10)) (48 + n % 10) (low_digits-AllDigits k (n / 10)) (digit_small n)

-- digits before k more
digits_value-low : (front : List ℕ) (k r : ℕ) → r < 10 ^ k → digits_value 10 (front ++ low_digits k r) ≡ digits_value 10 front * 10 ^ k + r
digits_value-low front zero r h = let z : r ≡ 0 = omega (arith, rw pow-zero at h) in rw (append-nil, z) (omega arith)
digits_value-low front (suc k) r h =
    let p : r < 10 ^ k * 10 = rw pow-suc at h in
    rw (← append_assoc front (low_digits k (r / 10)) ((48 + r % 10) ∷ []), digits_value_push 10 (front ++ low_digits k (r / 10)) (48 + r % 10), digit_is r, digits_value-low front k (r / 10) (omega arith), pow-suc)
    (omega arith)

-- all digits of a number
pub all_digits-low : (n : ℕ) → 0 < n → all_digits n ≡ low_digits (length (digits_of 10 n)) n
all_digits-low n some = all_digits_of n some ∙ sym (own_digits (length (digits_of 10 n)) n (below_own_power n))

pub record AreDigitsOf (ds : List ℕ) (n : ℕ) : Type 0 where
  pub digits : AllDigits 10 ds
  pub some : 0 < length ds
  pub value : digits_value 10 ds ≡ n

pub all_digits-AreDigitsOf : (n : ℕ) → AreDigitsOf (all_digits n) n
all_digits-AreDigitsOf n = elim (eq-zero-or-pos n) [
  | inl z ↦ rw z (record { digits = (lit< tt, tt); some = lit< tt; value = refl })
  | inr some ↦
      let k = length (digits_of 10 n) in
      rw (all_digits-low n some) (record {
        digits = low_digits-AllDigits k n;
        some = rw (length-low_digits k n) (some_first (digits_of 10 n) (first_digits_of 10 n (lit≤ tt) some));
        value = digits_value-low [] k n (below_own_power n) ∙ omega arith;
      })
]

-- ---- zeros at the end

suffix_len-push : (ds : List ℕ) (d : ℕ) → suffix_len is_zero (ds ++ (d ∷ [])) ≡ cond (is_zero d) (1 + suffix_len is_zero ds) 0
suffix_len-push ds d = rw (reverse-append ds (d ∷ []))

-- a zero at the end goes
zero_goes : (ds : List ℕ) → without_last_zeros (ds ++ (48 ∷ [])) ≡ without_last_zeros ds
zero_goes ds =
    let s = suffix_len is_zero ds in
    let most : s ≤ length ds = suffix_len-le-length is_zero ds in
    let n : length ds + 1 - (1 + s) ≡ length ds - s = omega arith in
    rw (suffix_len-push ds 48, length-append ds (48 ∷ []), n) (take-append-le (length ds - s) ds (48 ∷ []) (omega arith))

-- another digit stays
digit_stays : (ds : List ℕ) (d : ℕ) → (d ≡ 48 → ⊥) → without_last_zeros (ds ++ (d ∷ [])) ≡ ds ++ (d ∷ [])
digit_stays ds d other =
    rw (suffix_len-push ds d, ne_eqb d 48 other) (take_all (length (ds ++ (d ∷ [])) - 0) (ds ++ (d ∷ [])) (omega arith))

-- what the zeros at the end leave of k digits r that stand behind others
pub record IsFraction (front ds : List ℕ) (k r : ℕ) : Type 0 where
  pub digits : AllDigits 10 ds
  pub short : length ds ≤ k
  pub value : digits_value 10 (front ++ ds) * 10 ^ (k - length ds) ≡ digits_value 10 (front ++ low_digits k r)

pub fraction_is : (front : List ℕ) (k r : ℕ) → IsFraction front (without_last_zeros (low_digits k r)) k r
fraction_is front zero r = record { digits = tt; short = omega arith; value = mul-one (digits_value 10 (front ++ [])) }
fraction_is front (suc k) r = elim (eq-zero-or-pos (r % 10)) [
  | inl z ↦
      let h = fraction_is front k (r / 10) in
      let ds = without_last_zeros (low_digits k (r / 10)) in
      let zeros : suc k - length ds ≡ suc (k - length ds) = omega (arith, h.short) in
      let more : digits_value 10 (front ++ low_digits (suc k) r) ≡ digits_value 10 (front ++ low_digits k (r / 10)) * 10 =
      ap (digits_value 10) (sym (append_assoc front (low_digits k (r / 10)) ((48 + r % 10) ∷ [])))
      ∙ digits_value_push 10 (front ++ low_digits k (r / 10)) (48 + r % 10) ∙ omega (arith, digit_is r) in
      let value : digits_value 10 (front ++ ds) * 10 ^ (suc k - length ds) ≡ digits_value 10 (front ++ low_digits (suc k) r) =
      rw (zeros, pow-suc, more, ← h.value) (omega arith) in
      let same : without_last_zeros (low_digits (suc k) r) ≡ ds = rw z (zero_goes (low_digits k (r / 10))) in
      subst (λ t. IsFraction front t (suc k) r) (sym same) (record { digits = h.digits; short = omega (arith, h.short); value = value })
  | inr some ↦
      let all = low_digits (suc k) r in
      let n : suc k - length all ≡ 0 = omega (arith, length-low_digits (suc k) r) in
      rw (digit_stays (low_digits k (r / 10)) (48 + r % 10) (λ e. omega arith)) (record {
        digits = low_digits-AllDigits (suc k) r;
        short = omega (arith, length-low_digits (suc k) r);
        value = rw n (mul-one (digits_value 10 (front ++ all)));
      })
]

-- ---- the parts of a text

has_any : List ℕ → Bool
has_any [] = false
has_any (d ∷ ds) = true

abbrev parts : List ℕ → List ℕ → Parts
parts whole fraction = record {
  whole = whole;
  point = has_any fraction;
  fraction = fraction;
  exponent_negative = false;
  exponent = [];
  len = length (whole ++ point_and fraction);
}

parts_text : (whole fraction : List ℕ) → text_of (parts whole fraction) ≡ whole ++ point_and fraction
unfolding has_any
parts_text whole [] = refl
parts_text whole (d ∷ ds) = rw append-nil

no_point : (fraction : List ℕ) → has_any fraction ≡ false → fraction ≡ []
unfolding has_any
no_point [] e = refl
no_point (d ∷ ds) e = absurd (true≢false e)

parts-IsWellFormed : (whole fraction : List ℕ) → AllDigits 10 whole → AllDigits 10 fraction → IsWellFormed (parts whole fraction)
parts-IsWellFormed whole fraction w f = record {
  whole_digits = w;
  fraction_digits = f;
  exponent_digits = tt;
  no_point = no_point fraction;
  no_exponent = λ e. refl;
  len_is = ap length (sym (parts_text whole fraction));
}

-- ---- the float

-- the number of bits m * 2 ^ j, in units of the least number above 0
abbrev units_bits : Format → ℕ → ℕ
units_bits f n = (size n - prec f) * hid f + n / 2 ^ (size n - prec f)

to_bits-HasValue : (f : Format) (x : Float) (s : Bool) (num den n : ℕ) → 0 < den → HasValue x s num den → num * 2 ^ low f ≡ n * den
    → to_bits f x ≡ cond s (top f) 0 + units_bits f n
unfolding to_bits
to_bits-HasValue f nan s num den n p v h = elim v [ ]
to_bits-HasValue f (inf t) s num den n p v h = elim v [ ]
to_bits-HasValue f (fin t m e) s num den n p v h =
    let scaled : m * up e * 2 ^ low f ≡ n * down e = eq_of_mul-eq-mul_right den p (m * up e * 2 ^ low f) (n * down e)
    (omega (arith, ap (λ x. x * 2 ^ low f) v.1, ap (λ x. x * down e) h)) in
    let is : m * up e * 2 ^ low f / down e ≡ n = ap (λ x. x / down e) scaled ∙ mul-div_cancel n (down_pos e) in
    rw (is, v.0) (add_assoc (cond s (top f) 0) ((size n - prec f) * hid f) (n / 2 ^ (size n - prec f)))

-- a number of so many digits
size_is : (n j : ℕ) → 2 ^ j ≤ n → n < 2 ^ suc j → size n ≡ suc j
size_is n j least most =
    let below = size-lt n in
    let above : size n ≤ suc j = size-le n (suc j) most in
    elim (cases_lt (size n) (suc j)) [
      | inl l ↦ let m : 2 ^ size n ≤ 2 ^ j = pow_mono (omega arith) in absurd (omega arith)
      | inr g ↦ omega arith
    ]

prec_above : (f : Format) → prec f ≡ suc (prec f - 1)
prec_above f = omega (arith, two f)

-- the leading digit stands
units-normal : (f : Format) (m j : ℕ) → hid f ≤ m → m < 2 ^ prec f → units_bits f (m * 2 ^ j) ≡ j * hid f + m
units-normal f m j least most =
    let p = prec f in
    let q : p ≡ suc (p - 1) = prec_above f in
    let low : 2 ^ (p - 1 + j) ≤ m * 2 ^ j = rw (pow-add 2 (p - 1) j) (mul-le-mul_right (2 ^ j) least) in
    let e : p + j ≡ suc (p - 1 + j) = omega arith in
    let high : m * 2 ^ j < 2 ^ suc (p - 1 + j) = rw (← e) (shl_lt p j most) in
    let is : size (m * 2 ^ j) - p ≡ j = omega (arith, size_is (m * 2 ^ j) (p - 1 + j) low high) in
    rw (is, mul-div_cancel m (pow_pos j))

-- it doesn't
units-subnormal : (f : Format) (m : ℕ) → m < hid f → units_bits f m ≡ m
units-subnormal f m most =
    let is : size m - prec f ≡ 0 = omega (arith, size-le m (prec f - 1) most, two f) in
    rw (is, div-one) (omega arith)

-- ---- the fields of bits

-- the fraction is the same below the sign
mod_hid : (f : Format) (bits : ℕ) → bits % top f % hid f ≡ bits % hid f
mod_hid binary32 bits = omega arith
mod_hid binary64 bits = omega arith

-- the exponent's field, and the fraction
fields_are : (f : Format) (bits : ℕ) → bits % top f ≡ exponent_field f bits * hid f + bits % hid f
fields_are f bits = sym (div-add-mod' (bits % top f) (hid f)) ∙ ap (λ x. exponent_field f bits * hid f + x) (mod_hid f bits)

rest_of : (f : Format) (bits : ℕ) → bits < 2 * top f → top f ≤ bits → bits ≡ top f + bits % top f
rest_of binary32 bits h l = omega arith
rest_of binary64 bits h l = omega arith

-- the sign, and what is below it
sign_and_rest : (f : Format) (bits : ℕ) → bits < 2 * top f → bits ≡ cond (is_negative f bits) (top f) 0 + bits % top f
sign_and_rest f bits h = elim (cases_lt bits (top f)) [
  | inl l ↦ rw (lt-leb (top f) bits l, mod-eq_of_lt l) (omega arith)
  | inr g ↦ rw (le-leb (top f) bits g) (rest_of f bits h g)
]

significand_normal : (f : Format) (bits : ℕ) → 0 < exponent_field f bits → significand f bits ≡ bits % hid f + hid f
significand_normal f bits some = rw (ne_eqb (exponent_field f bits) 0 (λ e. omega arith))

significand_subnormal : (f : Format) (bits : ℕ) → exponent_field f bits ≡ 0 → significand f bits ≡ bits % hid f
significand_subnormal f bits none = rw (eq-eqb (exponent_field f bits) 0 none) (omega arith)

hid_pos : (f : Format) → 0 < hid f
hid_pos f = pow_pos (prec f - 1)

two_hids : (f : Format) → hid f + hid f ≡ 2 ^ prec f
two_hids binary32 = refl
two_hids binary64 = refl

-- a significand has no more digits than the format
pub significand-lt : (f : Format) (bits : ℕ) → significand f bits < 2 ^ prec f
significand-lt f bits =
    let t = mod-lt bits (hid_pos f) in
    elim (eq-zero-or-pos (exponent_field f bits)) [
      | inl z ↦ rw (significand_subnormal f bits z, ← two_hids f) (omega arith)
      | inr some ↦ rw (significand_normal f bits some, ← two_hids f) (omega arith)
    ]

units-fields : (f : Format) (bits : ℕ) → units_bits f (significand f bits * 2 ^ (exponent_field f bits - 1)) ≡ bits % top f
units-fields f bits =
    let t = mod-lt bits (hid_pos f) in
    elim (eq-zero-or-pos (exponent_field f bits)) [
      | inl z ↦
          let m : significand f bits * 2 ^ (exponent_field f bits - 1) ≡ bits % hid f = rw (significand_subnormal f bits z, z) (mul-one (bits % hid f)) in
          rw m (units-subnormal f (bits % hid f) t ∙ omega (arith, fields_are f bits, ap (λ x. x * hid f) z))
      | inr some ↦
          let field = exponent_field f bits in
          let e : field ≡ suc (field - 1) = omega arith in
          let more : field * hid f ≡ (field - 1) * hid f + hid f = ap (λ x. x * hid f) e ∙ omega arith in
          units-normal f (significand f bits) (field - 1) (rw (significand_normal f bits some) (omega arith)) (significand-lt f bits)
          ∙ rw (significand_normal f bits some) (omega (arith, fields_are f bits, more))
    ]

-- ---- what is printed is read

-- the places before and behind the point
pub point_is : (f : Format) (bits : ℕ) → 2 ^ doublings f bits * 2 ^ low f ≡ 2 ^ (exponent_field f bits - 1) * 2 ^ places f bits
point_is f bits =
    let e : doublings f bits + low f ≡ (exponent_field f bits - 1) + places f bits = omega arith in
    sym (pow-add 2 (doublings f bits) (low f)) ∙ ap (λ x. 2 ^ x) e ∙ pow-add 2 (exponent_field f bits - 1) (places f bits)

-- digits v of m * 2 ^ d / 2 ^ k with l places are m * 2 ^ j / 2 ^ low
units_of_digits : (v m d k l j w : ℕ) → l ≤ k → 2 ^ d * 2 ^ w ≡ 2 ^ j * 2 ^ k → v * 10 ^ (k - l) ≡ m * 2 ^ d * 5 ^ k
    → v * 2 ^ w ≡ m * 2 ^ j * 10 ^ l
units_of_digits v m d k l j w short point value =
    let split : 10 ^ l * 10 ^ (k - l) ≡ 2 ^ k * 5 ^ k = sym (pow-add 10 l (k - l)) ∙ (let e : l + (k - l) ≡ k = omega arith in ap (λ x. 10 ^ x) e) ∙ sym (ten_power k) in
    eq_of_mul-eq-mul_right (10 ^ (k - l)) (power_pos 10 (k - l) (lit< tt)) (v * 2 ^ w) (m * 2 ^ j * 10 ^ l)
    (omega (arith, ap (λ x. x * 2 ^ w) value, ap (λ x. m * 5 ^ k * x) point, ap (λ x. m * 2 ^ j * x) split))

exponent_most : (f : Format) (field : ℕ) → field < ones f → prec f + (field - 1) ≤ low f + suc (emax f)
exponent_most binary32 field h = omega arith
exponent_most binary64 field h = omega arith

-- a finite number is below 2 ^ (emax + 1)
pub number_fits : (f : Format) (bits : ℕ) → AreFinite f bits → significand f bits * 2 ^ (exponent_field f bits - 1) < 2 ^ (low f + suc (emax f))
number_fits f bits finite = lt_of_lt_of_le (shl_lt (prec f) (exponent_field f bits - 1) (significand-lt f bits)) (pow_mono (exponent_most f (exponent_field f bits) finite))

finite_float : (x : Float) (s : Bool) (num den : ℕ) → HasValue x s num den → float_is_finite x ≡ true
unfolding float_is_finite
finite_float nan s num den v = elim v [ ]
finite_float (inf t) s num den v = elim v [ ]
finite_float (fin t m e) s num den v = refl

pub real_bits-bits_text : (f : Format) (bits : ℕ) → bits < 2 * top f → AreFinite f bits → real_bits f (bits_text f bits) ≡ Some bits
unfolding real_bits bits_text
real_bits-bits_text f bits h finite =
    let s = is_negative f bits in
    let m = significand f bits in
    let j = exponent_field f bits - 1 in
    let k = places f bits in
    let n = m * 2 ^ doublings f bits in
    let w = all_digits-AreDigitsOf (n / 2 ^ k) in
    let whole = all_digits (n / 2 ^ k) in
    let r = n % 2 ^ k * 5 ^ k in
    let d = fraction_is whole k r in
    let fraction = without_last_zeros (low_digits k r) in
    let p = parts whole fraction in
    let l = length fraction in
    let v = digits_value 10 (whole ++ fraction) in
    let parsed : parse_float f (sign_text s ++ text_of p) ≡ Some (nearest_float f s p) = parse_float-text_of f s p (parts-IsWellFormed whole fraction w.digits d.digits) w.some in
    let value : v * 10 ^ (k - l) ≡ n * 5 ^ k = d.value ∙ digits_value-low whole k r (fraction_small n k) ∙ ap (λ x. x * 10 ^ k + r) w.value ∙ sym (point_moved n k) in
    let plain : v * 2 ^ low f ≡ m * 2 ^ j * 10 ^ l = units_of_digits v m (doublings f bits) k l j (low f) d.short (point_is f bits) value in
    let units : v * 1 * 2 ^ low f ≡ m * 2 ^ j * 10 ^ (l + 0) = rw (mul-one v, add-zero l) plain in
    let den : 0 < 10 ^ (l + 0) = power_pos 10 (l + 0) (lit< tt) in
    let is : HasValue (nearest_float f s p) s (v * 1) (10 ^ (l + 0)) = round_exact f s (v * 1) (10 ^ (l + 0)) m j den (significand-lt f bits) (number_fits f bits finite) units in
    let back : to_bits f (nearest_float f s p) ≡ bits =
    to_bits-HasValue f (nearest_float f s p) s (v * 1) (10 ^ (l + 0)) (m * 2 ^ j) den is units ∙ ap (λ x. cond s (top f) 0 + x) (units-fields f bits) ∙ sym (sign_and_rest f bits h) in
    rw (lt-ltb _ _ finite, ← parts_text whole fraction, parsed, finite_float _ s _ _ is, back)
