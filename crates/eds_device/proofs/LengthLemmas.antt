-- How long the values are that texts spell.
use Rattle.std.proofs.Common.{◌≡◌, ℕ, ◌≤◌, Bool, true, false, List, length, Option, Some, None, refl, sym, ap, ◌∙◌}
use Rattle.std.proofs.Common.{arith}
use Rattle.std.specs.Prelude.{if◌then◌else◌, nat_le, option_map, option_and_then, unwrap_or, MatchOption}
use Rattle.std.proofs.lemmas.Bool.{leb-true}
use Rattle.std.proofs.lemmas.List.{length-replicate}
use Rattle.byteorder.specs.Endian.{little_bytes}
use Rattle.byteorder.specs.Numbers.{length-bytes_low_first}
use Rattle.co_values.specs.declared.data_type.DataType.{DataType}
use Rattle.co_values.specs.declared.form.Form.{Form}
use Rattle.co_values.specs.declared.form.Form.TheVariants.{Flag, Signed, Unsigned, Decimal, Characters, HexPairs, Unmodelled}
use Rattle.co_values.specs.Number.{formula}
use Rattle.co_values.specs.Types.{form, octets, len_of_form, real_octets}
use Rattle.co_values.specs.Values.{value, value_in, zero_of_form, zero_value, longest_value, if_not_too_long, bytes_of_pairs}
use Rattle.co_values.specs.Values.{flag_bits, unsigned_bits, signed_text_bits}
use Rattle.eds_device.specs.Described.{Default, written, count}
use Rattle.eds_device.specs.Entries.{default_bytes}
use Rattle.co_dict.specs.Values.{HasLength}
use Rattle.co_values.proofs.Printed.{octets_most, real_width}

abbrev HasLengthIn : Form → List ℕ → Type 0
HasLengthIn f bytes = MatchOption (len_of_form f) (length bytes ≤ longest_value) (λ n. length bytes ≡ n)

number_length : (n : ℕ) (o : Option ℕ) (bytes : List ℕ) → option_map (little_bytes n) o ≡ Some bytes → length bytes ≡ n
number_length n None bytes e = cc
number_length n (Some x) bytes e = let same : little_bytes n x ≡ bytes = cc
    in ap length (sym same) ∙ length-bytes_low_first 0 n x

short : (text bytes : List ℕ) → if_not_too_long text ≡ Some bytes → length bytes ≤ longest_value
short text bytes e = by (nat_le (length text) longest_value) refl e
  where
    by : (b : Bool) → nat_le (length text) longest_value ≡ b
        → (let given : Option (List ℕ) = if b then Some text else None in given ≡ Some bytes)
        → length bytes ≤ longest_value
    by true t g = let same : text ≡ bytes = cc in omega (arith, leb-true (length text) longest_value t, ap length same)
    by false t g = cc

short_pairs : (o : Option (List ℕ)) (bytes : List ℕ) → option_and_then if_not_too_long o ≡ Some bytes
    → length bytes ≤ longest_value
short_pairs None bytes e = cc
short_pairs (Some xs) bytes e = short xs bytes e

value_length : (f : Form) (text : List ℕ) (node : ℕ) (bytes : List ℕ) → value_in f text node ≡ Some bytes
    → HasLengthIn f bytes
value_length Flag text node bytes e = number_length 1 (option_and_then flag_bits (formula text node)) bytes e
value_length (Signed width) text node bytes e = number_length (octets width) (signed_text_bits width text node) bytes e
value_length (Unsigned width) text node bytes e = number_length (octets width)
    (option_and_then (unsigned_bits width) (formula text node)) bytes e
value_length (Decimal real) text node bytes e = number_length (real_octets real) _ bytes e
value_length Characters text node bytes e = short text bytes e
value_length HexPairs text node bytes e = short_pairs (bytes_of_pairs text) bytes e
value_length Unmodelled text node bytes e = cc

zero_length : (f : Form) → HasLengthIn f (zero_of_form f)
zero_length Flag = refl
zero_length (Signed width) = length-replicate (octets width) 0
zero_length (Unsigned width) = length-replicate (octets width) 0
zero_length (Decimal real) = length-replicate (real_octets real) 0
zero_length Characters = omega arith
zero_length HexPairs = omega arith
zero_length Unmodelled = omega arith

-- what a text gives as a default has the length of its type
pub written_length : (kind : DataType) (text : List ℕ) (node : ℕ)
    → HasLength kind (default_bytes kind (written text) node)
unfolding value
written_length kind text node = by (value_in (form kind) text node) refl
  where
    by : (o : Option (List ℕ)) → value_in (form kind) text node ≡ o → HasLength kind (unwrap_or o (zero_value kind))
    by None e = zero_length (form kind)
    by (Some bytes) e = value_length (form kind) text node bytes e

-- no value is too long
pub length_within : (kind : DataType) (bytes : List ℕ) → HasLength kind bytes → length bytes ≤ longest_value
length_within kind bytes h = by (form kind) h
  where
    by : (f : Form) → HasLengthIn f bytes → length bytes ≤ longest_value
    by Flag h = omega arith
    by (Signed width) h = omega (arith, h, octets_most width)
    by (Unsigned width) h = omega (arith, h, octets_most width)
    by (Decimal real) h = omega (arith, h, (real_width real).1, octets_most (real_width real).0)
    by Characters h = h
    by HexPairs h = h
    by Unmodelled h = h

-- no default is too long
pub default_short : (kind : DataType) (default : Default) (node : ℕ)
    → length (default_bytes kind default node) ≤ longest_value
default_short kind (written text) node = length_within kind (default_bytes kind (written text) node)
    (written_length kind text node)
default_short kind (count n) node = omega arith
