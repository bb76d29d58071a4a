-- What a text spells as a value fits the type.
use Rattle.std.proofs.Common.{◌≡◌, ℕ, zero, suc, ◌%◌, ◌<◌, ◌≤◌, Bool, true, false, List, [], ◌∷◌, length, get_or}
use Rattle.std.proofs.Common.{Option, Some, None, refl, sym, ap, subst, ◌∙◌, lit<, arith, ℤ, pos, negsuc}
use Rattle.std.specs.Prelude.{nat_lt, nat_le, if◌then◌else◌, ◌&&◌, unwrap_or, option_map, option_and_then, IfSome}
use Rattle.std.specs.Char.{digit_value, is_digit}
use Rattle.std.specs.Int.{byte_at, bytes_low_first}
use Rattle.std.proofs.lemmas.Bool.{ltb-true, leb-true}
use Rattle.byteorder.specs.Endian.{little_bytes}
use Rattle.byteorder.specs.Numbers.{length-bytes_low_first}
use Rattle.base.specs.Bytes.{AreBytes}
use Rattle.co_values.specs.declared.data_type.DataType.{DataType}
use Rattle.co_values.specs.declared.form.Form.{Form}
use Rattle.co_values.specs.declared.form.Form.TheVariants.{Flag, Signed, Unsigned, Decimal, Characters, HexPairs, Unmodelled}
use Rattle.co_values.specs.Number.{formula}
use Rattle.co_values.specs.Types.{form, octets, real_octets}
use Rattle.co_values.specs.Values.{value, value_in, Fits, FitsForm, IsLaidOut, IsValueOf, flag_bits, unsigned_bits}
use Rattle.co_values.specs.Values.{signed_text_bits}
use Rattle.co_values.specs.Values.{pair_number, bytes_of_pairs, longest_value, if_not_too_long}
use Rattle.real_texts.specs.Reals.{format_of}
use Rattle.real_texts.specs.Texts.{real_bits}
use Rattle.real_texts.proofs.Finite.{what_is_read_is_finite}

-- two lists that are both given are one
given_same : (xs ys : List ℕ) → Some xs ≡ Some ys → xs ≡ ys
given_same xs ys e = ap (λ (o : Option (List ℕ)). unwrap_or o []) e

-- ---- numbers

byte_at-lt : (i x : ℕ) → byte_at i x < 256
byte_at-lt zero x = omega arith
byte_at-lt (suc i) x = omega arith

AreBytes-bytes_low_first : (i n x : ℕ) → AreBytes (bytes_low_first i n x)
AreBytes-bytes_low_first i zero x k = lit< tt
AreBytes-bytes_low_first i (suc n) x zero = byte_at-lt i x
AreBytes-bytes_low_first i (suc n) x (suc k) = AreBytes-bytes_low_first (suc i) n x k

pub number_fits : (n : ℕ) (o : Option ℕ) (bytes : List ℕ) → option_map (little_bytes n) o ≡ Some bytes
    → AreBytes bytes × (length bytes ≡ n)
number_fits n None bytes e = cc
number_fits n (Some x) bytes e =
    let is : little_bytes n x ≡ bytes = given_same (little_bytes n x) bytes e in (
      subst (λ (xs : List ℕ). AreBytes xs) is (AreBytes-bytes_low_first 0 n x),
      ap length (sym is)
          ∙ length-bytes_low_first 0 n x,
    )

flag_fits_at : (n : ℕ) (b : Bool) (bytes : List ℕ) → nat_lt n 2 ≡ b
    → option_map (little_bytes 1) (if b then Some n else None) ≡ Some bytes → get_or bytes 0 0 < 2
flag_fits_at n true bytes test e =
    let is : get_or bytes 0 0 ≡ n % 256 = ap (λ (xs : List ℕ). get_or xs 0 0)
    (sym (given_same (little_bytes 1 n) bytes e)) in
    let low : n < 2 = ltb-true n 2 test in
    omega arith
flag_fits_at n false bytes test e = cc

pub flag_fits : (o : Option ℤ) (bytes : List ℕ) → option_map (little_bytes 1) (option_and_then flag_bits o) ≡ Some bytes
    → get_or bytes 0 0 < 2
flag_fits None bytes e = cc
flag_fits (Some (pos n)) bytes e = flag_fits_at n (nat_lt n 2) bytes refl e
flag_fits (Some (negsuc n)) bytes e = cc

-- ---- bytes

pub short_at : (text bytes : List ℕ) (b : Bool) → nat_le (length text) longest_value ≡ b
    → (if b then Some text else None) ≡ Some bytes → (text ≡ bytes) × (length bytes ≤ longest_value)
short_at text bytes true test e =
    let is : text ≡ bytes = given_same text bytes e in
    let few : length text ≤ longest_value = leb-true (length text) longest_value test in
    (is, omega (arith, ap length is))
short_at text bytes false test e = cc

short_fits : (text bytes : List ℕ) → AreBytes text → if_not_too_long text ≡ Some bytes
    → AreBytes bytes × (length bytes ≤ longest_value)
short_fits text bytes h e =
    let is = short_at text bytes (nat_le (length text) longest_value) refl e in
    (subst (λ (xs : List ℕ). AreBytes xs) is.0 h, is.1)

pair_fits : (a b : ℕ) (x y : Bool) (o : Option (List ℕ)) → is_digit a 16 ≡ x → is_digit b 16 ≡ y → IfSome o AreBytes
    → IfSome (if x && y then option_map (λ bytes. pair_number a b ∷ bytes) o else None) AreBytes
pair_fits a b true true None high low h = tt
pair_fits a b true true (Some bytes) high low h = both
  where
    first : digit_value a < 16
    first = ltb-true (digit_value a) 16 high

    second : digit_value b < 16
    second = ltb-true (digit_value b) 16 low

    both : AreBytes (pair_number a b ∷ bytes)
    both zero = omega (arith, first, second)
    both (suc k) = h k
pair_fits a b true false o high low h = tt
pair_fits a b false y o high low h = tt

pub paired_fits : (text : List ℕ) → IfSome (bytes_of_pairs text) AreBytes
paired_fits [] = λ k. lit< tt
paired_fits (a ∷ []) = tt
paired_fits (a ∷ b ∷ text) = pair_fits a b (is_digit a 16) (is_digit b 16) (bytes_of_pairs text) refl refl (paired_fits text)

pub pairs_fit : (o : Option (List ℕ)) (bytes : List ℕ) → IfSome o AreBytes
    → option_and_then if_not_too_long o ≡ Some bytes → AreBytes bytes × (length bytes ≤ longest_value)
pairs_fit None bytes h e = cc
pairs_fit (Some given) bytes h e = short_fits given bytes h e

-- ---- the forms

form_fits : (f : Form) (text bytes : List ℕ) (node : ℕ) → AreBytes text → value_in f text node ≡ Some bytes
    → AreBytes bytes × FitsForm f bytes
form_fits Flag text bytes node h e =
    let is = number_fits 1 (option_and_then flag_bits (formula text node)) bytes e in
    (is.0, (is.1, flag_fits (formula text node) bytes e))
form_fits (Signed width) text bytes node h e = number_fits (octets width) (signed_text_bits width text node) bytes e
form_fits (Unsigned width) text bytes node h e = number_fits (octets width)
    (option_and_then (unsigned_bits width) (formula text node)) bytes e
form_fits (Decimal real) text bytes node h e =
    let is = number_fits (real_octets real) (real_bits (format_of real) text) bytes e in
    (is.0, (is.1, what_is_read_is_finite (format_of real) text bytes e))
form_fits Characters text bytes node h e = short_fits text bytes h e
form_fits HexPairs text bytes node h e = pairs_fit (bytes_of_pairs text) bytes (paired_fits text) e
form_fits Unmodelled text bytes node h e = cc

-- the bytes that a text spells fit the type
pub Fits-value : (kind : DataType) (text bytes : List ℕ) (node : ℕ) → AreBytes text → value kind text node ≡ Some bytes
    → Fits kind bytes
unfolding value
Fits-value kind text bytes node h e = form_fits (form kind) text bytes node h e

-- ---- values that no text spells

laid_out : (f : Form) (bytes : List ℕ) → FitsForm f bytes → IsLaidOut f bytes
laid_out Flag bytes fits = fits
laid_out (Signed width) bytes fits = fits
laid_out (Unsigned width) bytes fits = fits
laid_out (Decimal real) bytes fits = fits.0
laid_out Characters bytes fits = fits
laid_out HexPairs bytes fits = fits
laid_out Unmodelled bytes fits = fits

-- what a text can spell is a value
pub IsValueOf-Fits : (kind : DataType) (bytes : List ℕ) → Fits kind bytes → IsValueOf kind bytes
IsValueOf-Fits kind bytes fits = (fits.0, laid_out (form kind) bytes fits.1)
