-- What is printed of a value that a text spelled is read as that value.
use Rattle.std.proofs.Common.{◌≡◌, ℕ, ◌<◌, List, [], ◌∷◌, length, Some, inl, inr, ◌⊎◌, nat_le, refl, sym, ap, ◌∙◌}
use Rattle.std.proofs.Common.{arith, ℤ, pos, negsuc}
use Rattle.std.specs.Fmt.{signed_decimal}
use Rattle.std.specs.Option.{option_and_then}
use Rattle.base.specs.Bytes.{AreBytes}
use Rattle.co_values.proofs.Printed.{value-printed}
use Rattle.co_values.proofs.Read.{flag_fits, number_fits, paired_fits, pairs_fit, short_at}
use Rattle.co_values.specs.declared.data_type.DataType.{DataType}
use Rattle.co_values.specs.declared.data_type.DataType.TheVariants.{VisibleString}
use Rattle.co_values.specs.declared.form.Form.{Form}
use Rattle.co_values.specs.declared.form.Form.TheVariants.{Flag, Signed, Unsigned, Decimal, Characters, HexPairs}
use Rattle.co_values.specs.declared.form.Form.TheVariants.{Unmodelled}
use Rattle.co_values.specs.Number.{formula}
use Rattle.co_values.specs.Types.{form, octets}
use Rattle.co_values.specs.Values.{FitsForm, flag_bits, longest_value, bytes_of_pairs, text_of_value, text_of_value_in}
use Rattle.co_values.specs.Values.{signed_text_bits, unsigned_bits, value, value_in}
use Rattle.real_texts.proofs.Finite.{what_is_read_is_finite}
use Rattle.real_texts.proofs.Plain.{finite_are_some}
use Rattle.real_texts.specs.Reals.{format_of, octets as octets_of_format}
use Rattle.real_texts.specs.Texts.{real_bits}
use Rattle.eds_dcf.proofs.LineLemmas.{decimal_some}

-- numbers and pairs spell values of their types, and characters themselves
spelled_as : (f : Form) (text bytes : List ℕ) (node : ℕ) → value_in f text node ≡ Some bytes
    → (AreBytes bytes × FitsForm f bytes) ⊎ ((f ≡ Characters) × (text ≡ bytes))
spelled_as Flag text bytes node e = let is = number_fits 1 (option_and_then flag_bits (formula text node)) bytes e
    in inl (is.0, (is.1, flag_fits (formula text node) bytes e))
spelled_as (Signed width) text bytes node e =
    inl (number_fits (octets width) (signed_text_bits width text node) bytes e)
spelled_as (Unsigned width) text bytes node e =
    inl (number_fits (octets width) (option_and_then (unsigned_bits width) (formula text node)) bytes e)
spelled_as (Decimal real) text bytes node e =
    let is = number_fits (octets_of_format (format_of real)) (real_bits (format_of real) text) bytes e in
    inl (is.0, (is.1, what_is_read_is_finite (format_of real) text bytes e))
spelled_as Characters text bytes node e =
    inr (refl, (short_at text bytes (nat_le (length text) longest_value) refl e).0)
spelled_as HexPairs text bytes node e = inl (pairs_fit (bytes_of_pairs text) bytes (paired_fits text) e)
spelled_as Unmodelled text bytes node e = absurd (cc)

printed_characters : (kind : DataType) (bytes : List ℕ) → form kind ≡ Characters → text_of_value kind bytes ≡ bytes
unfolding text_of_value
printed_characters kind bytes e = ap (λ f. text_of_value_in f bytes) e

pub value_again : (kind : DataType) (text bytes : List ℕ) (node : ℕ) → value kind text node ≡ Some bytes
    → value kind (text_of_value kind bytes) node ≡ Some bytes
unfolding value
value_again kind text bytes node e = by (spelled_as (form kind) text bytes node e)
  where
    by : (AreBytes bytes × FitsForm (form kind) bytes) ⊎ ((form kind ≡ Characters) × (text ≡ bytes))
        → value kind (text_of_value kind bytes) node ≡ Some bytes
    by (inl fits) = value-printed kind bytes node fits
    by (inr same_text) = ap (λ t. value kind t node) (printed_characters kind bytes same_text.0 ∙ sym same_text.1) ∙ e

-- characters spell themselves
pub characters : (text bytes : List ℕ) (node : ℕ) → value VisibleString text node ≡ Some bytes → text ≡ bytes
unfolding value
characters text bytes node e = (short_at text bytes (nat_le (length text) longest_value) refl e).0

signed_some : (z : ℤ) → 0 < length (signed_decimal z)
signed_some (pos n) = decimal_some n
signed_some (negsuc n) = omega arith

form_some : (f : Form) (text bytes : List ℕ) (node : ℕ) → value_in f text node ≡ Some bytes → 0 < length bytes
    → 0 < length (text_of_value_in f bytes)
form_some Flag text bytes node e h = decimal_some _
form_some (Signed width) text bytes node e h = signed_some _
form_some (Unsigned width) text bytes node e h = omega arith
form_some (Decimal real) text bytes node e h =
    finite_are_some (format_of real) bytes (what_is_read_is_finite (format_of real) text bytes e)
form_some Characters text bytes node e h = h
form_some HexPairs text [] node e h = absurd (omega arith)
form_some HexPairs text (b ∷ bs) node e h = omega arith
form_some Unmodelled text bytes node e h = absurd (cc)

-- what is printed of a value that a text spelled isn't empty, unless the value is
pub printed_some : (kind : DataType) (text bytes : List ℕ) (node : ℕ) → value kind text node ≡ Some bytes
    → 0 < length bytes → 0 < length (text_of_value kind bytes)
unfolding value text_of_value
printed_some kind text bytes node e h = form_some (form kind) text bytes node e h
