-- What is printed of a value is read as that value.
use Rattle.std.proofs.Common.{◌≡◌, ℕ, suc, ◌-◌, ◌*◌, ◌%◌, ◌^◌, ◌<◌, ◌≤◌, List, [], ◌∷◌, ◌++◌, length, reverse, Some}
use Rattle.std.proofs.Common.{refl, ap, ◌∙◌, inl, inr, lit<, lit≤, arith, ℤ, pos, negsuc}
use Rattle.std.specs.Prelude.{option_map, decimal, codes}
use Rattle.std.specs.Fmt.{signed_decimal}
use Rattle.std.proofs.lemmas.Bool.{cases_lt, lt-ltb, le-ltb, le-leb}
use Rattle.std.proofs.lemmas.List.{take_all}
use Rattle.byteorder.specs.Endian.{little_bytes, little_number, twos_complement}
use Rattle.byteorder.specs.Numbers.{little_from-lt}
use Rattle.base.specs.Bytes.{AreBytes}
use Rattle.base.proofs.Little.{spelled_again}
use Rattle.co_values.specs.declared.data_type.DataType.{DataType}
use Rattle.co_values.specs.declared.form.Form.{Form}
use Rattle.co_values.specs.declared.form.Form.TheVariants.{Flag, Signed, Unsigned, Decimal, Characters, HexPairs, Unmodelled}
use Rattle.co_values.specs.declared.form.Width.{Width}
use Rattle.co_values.specs.declared.form.Width.TheVariants.{Bits8, Bits16, Bits24, Bits32, Bits40, Bits48, Bits56, Bits64}
use Rattle.co_values.specs.Number.{number, formula}
use Rattle.co_values.specs.Types.{form, octets, real_octets}
use Rattle.co_values.specs.Values.{value, value_in, text_of_value, text_of_value_in, Fits, FitsForm, signed_bits}
use Rattle.co_values.specs.Values.{signed_text_bits, pairs_of, longest_value, if_not_too_long}
use Rattle.co_values.proofs.Decimal.{number-decimal, number-negative}
use Rattle.co_values.proofs.Hexadecimal.{bytes_of_pairs-pairs_of, number-hexadecimal}
use Rattle.real_texts.specs.declared.real.Real.{Real}
use Rattle.real_texts.specs.declared.real.Real.TheVariants.{Real32, Real64}
use Rattle.real_texts.specs.Reals.{format_of}
use Rattle.real_texts.proofs.Finite.{printed_is_read}

-- a number is a formula, the same at every node
pub formula-number : (text : List ℕ) (node : ℕ) (z : ℤ) → number text ≡ Some z → formula text node ≡ Some z
unfolding formula
formula-number text node z h = rw h refl

-- ---- widths

-- half of the numbers of a width
abbrev pub half : Width → ℕ
half width = 2 ^ (8 * octets width - 1)

pub two_halves : (width : Width) → 2 ^ (8 * octets width) ≡ 2 * half width
two_halves Bits8 = refl
two_halves Bits16 = refl
two_halves Bits24 = refl
two_halves Bits32 = refl
two_halves Bits40 = refl
two_halves Bits48 = refl
two_halves Bits56 = refl
two_halves Bits64 = refl

pub half_most : (width : Width) → half width ≤ 2 ^ 63
half_most Bits8 = lit≤ tt
half_most Bits16 = lit≤ tt
half_most Bits24 = lit≤ tt
half_most Bits32 = lit≤ tt
half_most Bits40 = lit≤ tt
half_most Bits48 = lit≤ tt
half_most Bits56 = lit≤ tt
half_most Bits64 = lit≤ tt

pub octets_most : (width : Width) → octets width ≤ 8
octets_most Bits8 = lit≤ tt
octets_most Bits16 = lit≤ tt
octets_most Bits24 = lit≤ tt
octets_most Bits32 = lit≤ tt
octets_most Bits40 = lit≤ tt
octets_most Bits48 = lit≤ tt
octets_most Bits56 = lit≤ tt
octets_most Bits64 = lit≤ tt

octets_some : (width : Width) → 0 < octets width
octets_some Bits8 = lit< tt
octets_some Bits16 = lit< tt
octets_some Bits24 = lit< tt
octets_some Bits32 = lit< tt
octets_some Bits40 = lit< tt
octets_some Bits48 = lit< tt
octets_some Bits56 = lit< tt
octets_some Bits64 = lit< tt

-- a REAL has as many bytes as an integer of some width
pub real_width : (real : Real) → (width : Width) × (real_octets real ≡ octets width)
real_width Real32 = (Bits32, refl)
real_width Real64 = (Bits64, refl)

-- a byte has eight bits
bytes_power : (width : Width) → 256 ^ octets width ≡ 2 ^ (8 * octets width)
bytes_power Bits8 = refl
bytes_power Bits16 = refl
bytes_power Bits24 = refl
bytes_power Bits32 = refl
bytes_power Bits40 = refl
bytes_power Bits48 = refl
bytes_power Bits56 = refl
bytes_power Bits64 = refl

-- the number in bytes is below the width's power
number_below : (width : Width) (bytes : List ℕ) → AreBytes bytes
    → little_number (octets width) bytes < 2 ^ (8 * octets width)
number_below width bytes h = let below = little_from-lt 0 (octets width) bytes h
    in omega (arith, below, bytes_power width)

-- the bytes of the number in as many bytes
bytes_again : (width : Width) (bytes : List ℕ) → AreBytes bytes → length bytes ≡ octets width
    → little_bytes (octets width) (little_number (octets width) bytes) ≡ bytes
bytes_again width bytes h is = spelled_again (octets width) bytes (omega arith) h
    ∙ take_all (octets width) bytes (omega arith)

-- ---- signed integers

twos-small : (width : Width) (x : ℕ) → x < half width → twos_complement (octets width) x ≡ pos x
twos-small width x h = rw (lt-ltb x (half width) h) refl

twos-large : (width : Width) (x : ℕ) → half width ≤ x → x < 2 ^ (8 * octets width)
    → twos_complement (octets width) x ≡ negsuc (2 ^ (8 * octets width) - suc x)
twos-large Bits8 x low high = rw (le-ltb x (half Bits8) low, lt-ltb x (2 ^ 8) high) refl
twos-large Bits16 x low high = rw (le-ltb x (half Bits16) low, lt-ltb x (2 ^ 16) high) refl
twos-large Bits24 x low high = rw (le-ltb x (half Bits24) low, lt-ltb x (2 ^ 24) high) refl
twos-large Bits32 x low high = rw (le-ltb x (half Bits32) low, lt-ltb x (2 ^ 32) high) refl
twos-large Bits40 x low high = rw (le-ltb x (half Bits40) low, lt-ltb x (2 ^ 40) high) refl
twos-large Bits48 x low high = rw (le-ltb x (half Bits48) low, lt-ltb x (2 ^ 48) high) refl
twos-large Bits56 x low high = rw (le-ltb x (half Bits56) low, lt-ltb x (2 ^ 56) high) refl
twos-large Bits64 x low high = rw (le-ltb x (half Bits64) low, lt-ltb x (2 ^ 64) high) refl

signed_bits-small : (width : Width) (x : ℕ) → x < half width → signed_bits width (pos x) ≡ Some x
signed_bits-small width x h = rw (lt-ltb x (half width) h) refl

signed_bits-large : (width : Width) (x : ℕ) → half width ≤ x → x < 2 ^ (8 * octets width)
    → signed_bits width (negsuc (2 ^ (8 * octets width) - suc x)) ≡ Some x
signed_bits-large width x low high =
    let below : 2 ^ (8 * octets width) - suc x < half width = omega (arith, two_halves width) in
    let back : 2 ^ (8 * octets width) - suc (2 ^ (8 * octets width) - suc x) ≡ x = omega arith in
    rw (lt-ltb (2 ^ (8 * octets width) - suc x) (half width) below, back) refl

-- the decimal text of a signed integer spells it
signed_text : (width : Width) (x node : ℕ) → x < 2 ^ (8 * octets width)
    → signed_text_bits width (signed_decimal (twos_complement (octets width) x)) node ≡ Some x
signed_text width x node h = elim (cases_lt x (half width)) [
  | inl small ↦
      let read = formula-number (decimal x) node (pos x) (number-decimal x (omega (arith, half_most width))) in
      rw (twos-small width x small, read, signed_bits-small width x small) refl
  | inr large ↦
      let below : 2 ^ (8 * octets width) - suc x < 2 ^ 63 = omega (arith, half_most width, two_halves width) in
      let read =
      formula-number (signed_decimal (negsuc (2 ^ (8 * octets width) - suc x))) node
      (negsuc (2 ^ (8 * octets width) - suc x)) (number-negative (2 ^ (8 * octets width) - suc x) below) in
      rw (twos-large width x large h, read, signed_bits-large width x large h) refl
]

-- ---- the forms

flag_read : (bytes : List ℕ) (node : ℕ) → FitsForm Flag bytes
    → value_in Flag (text_of_value_in Flag bytes) node ≡ Some bytes
flag_read [] node h = absurd (omega (arith, h.0))
flag_read (b ∷ []) node h =
    let is : little_number 1 (b ∷ []) ≡ b = omega arith in
    let low : b < 2 = h.1 in
    let read = formula-number (decimal b) node (pos b) (number-decimal b (omega arith)) in
    let byte : b % 256 ≡ b = omega arith in
    rw (is, read, lt-ltb b 2 low, byte) refl
flag_read (b ∷ c ∷ bytes) node h = absurd (omega (arith, h.0))

unsigned_read : (width : Width) (bytes : List ℕ) (node : ℕ) → AreBytes bytes → length bytes ≡ octets width
    → value_in (Unsigned width) (text_of_value_in (Unsigned width) bytes) node ≡ Some bytes
unsigned_read width bytes node h is =
    let spelled = number-hexadecimal bytes (omega (arith, octets_some width)) (omega (arith, octets_most width)) h in
    let here : number (codes "0x" ++ pairs_of (reverse bytes)) ≡ Some (pos (little_number (octets width) bytes)) =
    rw is at spelled in
    let read = formula-number (codes "0x" ++ pairs_of (reverse bytes)) node (pos (little_number (octets width) bytes))
    here in
    rw (read, lt-ltb (little_number (octets width) bytes) (2 ^ (8 * octets width)) (number_below width bytes h))
    (ap Some (bytes_again width bytes h is))

signed_read : (width : Width) (bytes : List ℕ) (node : ℕ) → AreBytes bytes → length bytes ≡ octets width
    → value_in (Signed width) (text_of_value_in (Signed width) bytes) node ≡ Some bytes
signed_read width bytes node h is =
    ap (option_map (little_bytes (octets width)))
    (signed_text width (little_number (octets width) bytes) node (number_below width bytes h))
    ∙ ap Some (bytes_again width bytes h is)

not_too_long : (bytes : List ℕ) → length bytes ≤ longest_value → if_not_too_long bytes ≡ Some bytes
not_too_long bytes h = rw (le-leb (length bytes) 512 h) refl

form_read : (f : Form) (bytes : List ℕ) (node : ℕ) → AreBytes bytes → FitsForm f bytes
    → value_in f (text_of_value_in f bytes) node ≡ Some bytes
form_read Flag bytes node h fits = flag_read bytes node fits
form_read (Signed width) bytes node h fits = signed_read width bytes node h fits
form_read (Unsigned width) bytes node h fits = unsigned_read width bytes node h fits
form_read (Decimal real) bytes node h fits = printed_is_read (format_of real) bytes (h, fits.0) fits.1
form_read Characters bytes node h fits = not_too_long bytes fits
form_read HexPairs bytes node h fits = rw (bytes_of_pairs-pairs_of bytes h) (not_too_long bytes fits)
form_read Unmodelled bytes node h fits = absurd fits

-- what is printed of a value is read as that value at every node
pub value-printed : (kind : DataType) (bytes : List ℕ) (node : ℕ) → Fits kind bytes
    → value kind (text_of_value kind bytes) node ≡ Some bytes
unfolding value text_of_value
value-printed kind bytes node fits = form_read (form kind) bytes node fits.0 fits.1

pub ruleset printed_laws = value-printed
