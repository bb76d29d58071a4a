-- A value that a text of at least one byte spells has from 1 to 512 bytes.
use Rattle.std.proofs.Common.{◌≡◌, ℕ, zero, suc, ◌≤◌, Bool, true, false, List, [], ◌∷◌, length, Option, Some, None}
use Rattle.std.proofs.Common.{refl, ap, subst, arith}
use Rattle.std.specs.Prelude.{nat_le, if◌then◌else◌, ◌&&◌, unwrap_or, option_map, option_and_then}
use Rattle.std.specs.Char.{is_digit}
use Rattle.std.proofs.lemmas.Bool.{leb-true}
use Rattle.std.specs.Int.{bytes_low_first}
use Rattle.co_values.specs.declared.data_type.DataType.{DataType}
use Rattle.co_values.specs.declared.form.Form.{Form}
use Rattle.co_values.specs.declared.form.Form.TheVariants.{Flag, Signed, Unsigned, Decimal, Characters, HexPairs, Unmodelled}
use Rattle.co_values.specs.declared.form.Width.{Width}
use Rattle.co_values.specs.declared.form.Width.TheVariants.{Bits8, Bits16, Bits24, Bits32, Bits40, Bits48, Bits56, Bits64}
use Rattle.co_values.specs.Number.{formula}
use Rattle.co_values.specs.Types.{form, octets, real_octets}
use Rattle.co_values.proofs.Printed.{real_width}
use Rattle.co_values.specs.Values.{value, value_in, flag_bits, unsigned_bits, signed_text_bits, pair_number, bytes_of_pairs}
use Rattle.co_values.specs.Values.{longest_value, if_not_too_long}

abbrev Sized : List ℕ → Type 0
Sized bytes = (1 ≤ length bytes) × (length bytes ≤ 512)

given_same : (xs ys : List ℕ) → Some xs ≡ Some ys → xs ≡ ys
given_same xs ys e = ap (λ (o : Option (List ℕ)). unwrap_or o []) e

length-bytes_low_first : (i n x : ℕ) → length (bytes_low_first i n x) ≡ n
length-bytes_low_first i zero x = refl
length-bytes_low_first i (suc n) x = ap suc (length-bytes_low_first (suc i) n x)

number_len : (n : ℕ) (o : Option ℕ) (bytes : List ℕ) → option_map (bytes_low_first 0 n) o ≡ Some bytes
    → length bytes ≡ n
number_len n None bytes e = cc
number_len n (Some x) bytes e = subst (λ (xs : List ℕ). length xs ≡ n) (given_same (bytes_low_first 0 n x) bytes e)
    (length-bytes_low_first 0 n x)

octets_few : (width : Width) → (1 ≤ octets width) × (octets width ≤ 8)
octets_few Bits8 = (omega arith, omega arith)
octets_few Bits16 = (omega arith, omega arith)
octets_few Bits24 = (omega arith, omega arith)
octets_few Bits32 = (omega arith, omega arith)
octets_few Bits40 = (omega arith, omega arith)
octets_few Bits48 = (omega arith, omega arith)
octets_few Bits56 = (omega arith, omega arith)
octets_few Bits64 = (omega arith, omega arith)

number_sized : (width : Width) (o : Option ℕ) (bytes : List ℕ)
    → option_map (bytes_low_first 0 (octets width)) o ≡ Some bytes → Sized bytes
number_sized width o bytes e =
    let is : length bytes ≡ octets width = number_len (octets width) o bytes e in
    let few = octets_few width in
    (omega (arith, few.0), omega (arith, few.1))

short : (read bytes : List ℕ) → 1 ≤ length read → if_not_too_long read ≡ Some bytes → Sized bytes
short read bytes some e = by (nat_le (length read) longest_value) refl e
  where
    by : (b : Bool) → nat_le (length read) longest_value ≡ b → (if b then Some read else None) ≡ Some bytes
        → Sized bytes
    by true test e =
        let few : length read ≤ 512 = leb-true (length read) longest_value test in
        subst (λ (xs : List ℕ). Sized xs) (given_same read bytes e) (some, few)
    by false test e = cc

-- pairs of digits are bytes
paired_some : (text read : List ℕ) → 1 ≤ length text → bytes_of_pairs text ≡ Some read → 1 ≤ length read
paired_some [] read some e = absurd (omega arith)
paired_some (a ∷ []) read some e = cc
paired_some (a ∷ b ∷ text) read some e = by (is_digit a 16 && is_digit b 16) (bytes_of_pairs text) e
  where
    by : (t : Bool) (o : Option (List ℕ)) → (if t then option_map (λ bytes. pair_number a b ∷ bytes) o else None)
        ≡ Some read → 1 ≤ length read
    by true None e = cc
    by true (Some rest) e = subst (λ (xs : List ℕ). 1 ≤ length xs) (given_same (pair_number a b ∷ rest) read e)
        (omega arith)
    by false o e = cc

pairs_sized : (text : List ℕ) (o : Option (List ℕ)) (bytes : List ℕ) → 1 ≤ length text → bytes_of_pairs text ≡ o
    → option_and_then if_not_too_long o ≡ Some bytes → Sized bytes
pairs_sized text None bytes some is e = cc
pairs_sized text (Some read) bytes some is e = short read bytes (paired_some text read some is) e

form_sized : (f : Form) (text bytes : List ℕ) (node : ℕ) → 1 ≤ length text → value_in f text node ≡ Some bytes
    → Sized bytes
form_sized Flag text bytes node some e =
    let is : length bytes ≡ 1 = number_len 1 (option_and_then flag_bits (formula text node)) bytes e in
    (omega arith, omega arith)
form_sized (Signed width) text bytes node some e = number_sized width (signed_text_bits width text node) bytes e
form_sized (Unsigned width) text bytes node some e =
    number_sized width (option_and_then (unsigned_bits width) (formula text node)) bytes e
form_sized (Decimal real) text bytes node some e =
    let is : length bytes ≡ real_octets real = number_len (real_octets real) _ bytes e in
    let few = octets_few (real_width real).0 in
    (omega (arith, (real_width real).1, few.0), omega (arith, (real_width real).1, few.1))
form_sized Characters text bytes node some e = short text bytes some e
form_sized HexPairs text bytes node some e = pairs_sized text (bytes_of_pairs text) bytes some refl e
form_sized Unmodelled text bytes node some e = cc

pub value_sized : (kind : DataType) (text bytes : List ℕ) (node : ℕ) → 1 ≤ length text
    → value kind text node ≡ Some bytes → (1 ≤ length bytes) × (length bytes ≤ 512)
unfolding value
value_sized kind text bytes node some e = form_sized (form kind) text bytes node some e
