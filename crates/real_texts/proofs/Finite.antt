-- What a text gives as a value is finite, and the laws of bytes.
use Rattle.std.proofs.Common.{◌≡◌, ℕ, zero, suc, ◌+◌, ◌*◌, ◌^◌, ◌<◌, ◌≤◌, Bool, true, false, cond, true≢false, T, List, [], length, drop, Option, Some, None, option_map, option_and_then, if◌then◌else◌, ◌==◌}
use Rattle.std.proofs.Common.{refl, sym, ap, ◌∙◌, subst, arith, inl, inr, append-nil, eq-eqb, take_all}
use lib.Ieee.{Float, Format, binary32, binary64, nan, inf, ones, top, of_bits, of_fields, fits}
use lib.Ieee.Bits.{of_bits-to_bits, to_bits-lt}
use lib.Ieee.Fits.{round-fits, nan-fits, inf-fits}
use Rattle.std.proofs.lemmas.Bool.{cases_lt}
use Rattle.std.specs.Float.{float_is_finite}
use Rattle.std.specs.Float.Ieee.{to_bits}
use Rattle.std.specs.Float.Numeral.{scan_numeral, has_digits}
use Rattle.std.specs.Float.Parse.{parse_float, read_float, read_unsigned, begins_with, sign_len}
use Rattle.std.specs.Prelude.{⊤, unwrap_or, codes}
use Rattle.byteorder.specs.Endian.{little_bytes}
use Rattle.byteorder.specs.Numbers.{little_number-reads_back, little_from-lt}
use Rattle.base.proofs.Little.{spelled_again}
use Rattle.real_texts.specs.Reals.{octets, AreReal, bits_in, exponent_field, AreFinite, IsFinite, finite_bits}
use Rattle.real_texts.specs.Texts.{real_bits, real_value, exact_text}
use Rattle.real_texts.proofs.ReadBack.{real_bits-bits_text}

-- two values that are both given are one
given_same : {X : Type 0} → (x y : X) → Some x ≡ Some y → x ≡ y
given_same x y e = ap (λ o. unwrap_or o x) e

-- ---- bytes

bytes_count : (f : Format) → 256 ^ octets f ≡ 2 * top f
bytes_count binary32 = refl
bytes_count binary64 = refl

bits_in-lt : (f : Format) (bytes : List ℕ) → AreReal f bytes → bits_in f bytes < 2 * top f
bits_in-lt f bytes real = rw (← bytes_count f) (little_from-lt 0 (octets f) bytes real.0)

pub printed_is_read : (f : Format) (bytes : List ℕ) → AreReal f bytes → IsFinite f bytes → real_value f (exact_text f bytes) ≡ Some bytes
printed_is_read f bytes real finite =
    rw (real_bits-bits_text f (bits_in f bytes) (bits_in-lt f bytes real) finite, spelled_again (octets f) bytes (omega (arith, real.1)) real.0, ← real.1) (ap Some (take_all (length bytes) bytes (omega arith)))

pub texts_differ : (f : Format) (left right : List ℕ) → AreReal f left → IsFinite f left → AreReal f right → IsFinite f right
    → exact_text f left ≡ exact_text f right → left ≡ right
texts_differ f left right a x b y same =
    given_same left right (sym (printed_is_read f left a x) ∙ ap (real_value f) same ∙ printed_is_read f right b y)

-- ---- finite floats

not_finite : (f : Format) (s : Bool) (x t : ℕ) → x ≡ ones f → float_is_finite (of_fields f s x t) ≡ false
unfolding of_fields float_is_finite
not_finite f s zero t e = absurd (omega arith)
not_finite f s (suc x) t e = rw (eq-eqb (suc x) (ones f) e) (go (lib.Dec.eqb t 0))
  where
    go : (b : Bool) → float_is_finite (cond b (inf s) nan) ≡ false
    go true = refl
    go false = refl

field_most : (f : Format) (bits : ℕ) → exponent_field f bits ≤ ones f
field_most binary32 bits = omega arith
field_most binary64 bits = omega arith

-- the bits of a finite float are those of a number
finite_field : (f : Format) (x : Float) → T (fits f x) → float_is_finite x ≡ true → AreFinite f (to_bits f x)
unfolding of_bits
finite_field f x fit finite = elim (cases_lt (exponent_field f (to_bits f x)) (ones f)) [
  | inl l ↦ l
  | inr g ↦
      let e : exponent_field f (to_bits f x) ≡ ones f = omega (arith, field_most f (to_bits f x)) in
      absurd (true≢false (sym finite ∙ ap float_is_finite (sym (of_bits-to_bits f x fit)) ∙ not_finite f _ _ _ e))
]

-- ---- floats that a text gives

-- what is read, if anything, fits the format
AllFit : Format → Option (Float × ℕ) → Type 0
AllFit f None = ⊤
AllFit f (Some r) = T (fits f r.0)

choice : (f : Format) (b : Bool) (x y : Option (Float × ℕ)) → AllFit f x → AllFit f y → AllFit f (cond b x y)
choice f true x y p q = p
choice f false x y p q = q

unsigned_fits : (f : Format) (negative : Bool) (text : List ℕ) → AllFit f (read_unsigned f negative text)
unfolding AllFit
unsigned_fits f negative text =
    choice f (has_digits (scan_numeral text)) _ _ (round-fits f negative _ _)
    (choice f (begins_with text (codes "infinity")) _ _ (inf-fits f negative)
    (choice f (begins_with text (codes "inf")) _ _ (inf-fits f negative)
    (choice f (begins_with text (codes "nan")) _ _ (nan-fits f) tt)))

longer_fits : (f : Format) (n : ℕ) (o : Option (Float × ℕ)) → AllFit f o → AllFit f (option_map (λ r. (r.0, n + r.1)) o)
unfolding AllFit
longer_fits f n None h = tt
longer_fits f n (Some r) h = h

whole_fits : (f : Format) (n : ℕ) (x : Float) (o : Option (Float × ℕ)) → AllFit f o → option_and_then (λ r. if r.1 == n then Some r.0 else None) o ≡ Some x → T (fits f x)
unfolding AllFit
whole_fits f n x None h e = cc
whole_fits f n x (Some r) h e = go (r.1 == n) e
  where
    go : (b : Bool) → cond b (Some r.0) None ≡ Some x → T (fits f x)
    go true e = subst (λ y. T (fits f y)) (given_same r.0 x e) h
    go false e = cc

parse_float-fits : (f : Format) (text : List ℕ) (x : Float) → parse_float f text ≡ Some x → T (fits f x)
unfolding read_float
parse_float-fits f text x e =
    whole_fits f (length text) x _ (longer_fits f (sign_len text) _ (unsigned_fits f _ (drop (sign_len text) text))) e

-- ---- what is read

finite_bits_are : (f : Format) (x : Float) (bits : ℕ) → T (fits f x) → finite_bits f x ≡ Some bits → (bits < 2 * top f) × AreFinite f bits
finite_bits_are f x bits fit e = go (float_is_finite x) refl e
  where
    go : (b : Bool) → float_is_finite x ≡ b → cond b (Some (to_bits f x)) None ≡ Some bits → (bits < 2 * top f) × AreFinite f bits
    go true finite e = subst (λ n. (n < 2 * top f) × AreFinite f n) (given_same (to_bits f x) bits e) (to_bits-lt f x fit, finite_field f x fit finite)
    go false finite e = cc

read_bits_are : (f : Format) (o : Option Float) (bits : ℕ) → ((x : Float) → o ≡ Some x → T (fits f x)) → option_and_then (finite_bits f) o ≡ Some bits
    → (bits < 2 * top f) × AreFinite f bits
read_bits_are f None bits fit e = cc
read_bits_are f (Some x) bits fit e = finite_bits_are f x bits (fit x refl) e

finite_bytes_are : (f : Format) (o : Option ℕ) (bytes : List ℕ) → ((bits : ℕ) → o ≡ Some bits → (bits < 2 * top f) × AreFinite f bits)
    → option_map (little_bytes (octets f)) o ≡ Some bytes → IsFinite f bytes
finite_bytes_are f None bytes h e = cc
finite_bytes_are f (Some bits) bytes h e =
    let is : little_bytes (octets f) bits ≡ bytes = given_same (little_bytes (octets f) bits) bytes e in
    let fits = h bits refl in
    let back : bits_in f (little_bytes (octets f) bits) ≡ bits = rw append-nil at (little_number-reads_back (octets f) bits [] (rw (bytes_count f) fits.0)) in
    subst (IsFinite f) is (subst (AreFinite f) (sym back) fits.1)

pub what_is_read_is_finite : (f : Format) (text bytes : List ℕ) → real_value f text ≡ Some bytes → IsFinite f bytes
unfolding real_bits
what_is_read_is_finite f text bytes e = finite_bytes_are f (real_bits f text) bytes (λ bits b. read_bits_are f (parse_float f text) bits (parse_float-fits f text) b) e
