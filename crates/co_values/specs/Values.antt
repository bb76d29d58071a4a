-- The values of the data types of CiA 301, as the texts of an EDS or DCF (CiA 306) spell and print them.
-- A value is the list of its bytes as they travel: numbers little-endian, negative ones by two's complement.
use Rattle.std.specs.Prelude.{◌≡◌, ℕ, ◌+◌, ◌-◌, ◌*◌, ◌^◌, ◌<◌, ◌≤◌, suc, ℤ, pos, negsuc, ◌&&◌, nat_lt, nat_le}
use Rattle.std.specs.Prelude.{if◌then◌else◌, List, [], ◌∷◌, ◌++◌, length, get_or, reverse, replicate, Option, Some}
use Rattle.std.specs.Prelude.{None, option_map, option_and_then, flat_map, codes, decimal, is_some, Bool}
use Rattle.std.specs.Char.{digit_value, is_digit}
use Rattle.std.specs.Fmt.{signed_decimal}
use Rattle.std.specs.Option.{option_or}
use Rattle.byteorder.specs.Endian.{little_bytes, little_number, twos_complement}
use Rattle.base.specs.Bytes.{AreBytes}
use Rattle.base.specs.Digits.{byte_digits}
use Rattle.co_values.specs.declared.data_type.DataType.{DataType}
use Rattle.co_values.specs.declared.form.Form.{Form}
use Rattle.co_values.specs.declared.form.Form.TheVariants.{Flag, Signed, Unsigned, Decimal, Characters, HexPairs, Unmodelled}
use Rattle.co_values.specs.declared.form.Width.{Width}
use Rattle.co_values.specs.Number.{formula, formula_in, has_node, hexadecimal}
use Rattle.co_values.specs.Types.{fixed_len, form, octets, real_octets}
use Rattle.real_texts.specs.Reals.{format_of, IsFinite}
use Rattle.real_texts.specs.Texts.{exact_text, real_value}

-- ---- from text

-- BOOLEAN: 0 or 1
abbrev pub flag_bits : ℤ → Option ℕ
flag_bits (pos n) = if nat_lt n 2 then Some n else None
flag_bits (negsuc n) = None

-- UNSIGNEDn: from 0 to 2^n - 1
abbrev pub unsigned_bits : Width → ℤ → Option ℕ
unsigned_bits width (pos n) = if nat_lt n (2 ^ (8 * octets width)) then Some n else None
unsigned_bits width (negsuc n) = None

-- INTEGERn: from -2^(n - 1) to 2^(n - 1) - 1, a negative number as its two's complement
abbrev pub signed_bits : Width → ℤ → Option ℕ
signed_bits width (pos n) = if nat_lt n (2 ^ (8 * octets width - 1)) then Some n else None
signed_bits width (negsuc n) = if nat_lt n (2 ^ (8 * octets width - 1)) then Some (2 ^ (8 * octets width) - suc n)
    else None

-- a formula in the range of INTEGERn; a hexadecimal number without sign may also be the two's complement itself, a sum
-- may not (own)
abbrev pub signed_text_bits : Width → List ℕ → ℕ → Option ℕ
signed_text_bits width text node =
    option_or (option_and_then (signed_bits width) (formula text node))
    (option_and_then (unsigned_bits width) (option_map pos (hexadecimal text)))

-- own choice: the longest value, in bytes, of a type without a fixed length
abbrev pub longest_value : ℕ
longest_value = 512

-- bytes that are no longer than that
abbrev pub if_not_too_long : List ℕ → Option (List ℕ)
if_not_too_long bytes = if nat_le (length bytes) longest_value then Some bytes else None

-- the byte that two hexadecimal digits write, the high one first
abbrev pub pair_number : ℕ → ℕ → ℕ
pair_number high low = 16 * digit_value high + digit_value low

-- OCTET_STRING and DOMAIN: pairs of hexadecimal digits in any case, with nothing between them (own)
abbrev pub bytes_of_pairs : List ℕ → Option (List ℕ)
bytes_of_pairs [] = Some []
bytes_of_pairs (a ∷ []) = None
bytes_of_pairs (a ∷ b ∷ text) =
    if is_digit a 16 && is_digit b 16 then option_map (λ bytes. pair_number a b ∷ bytes) (bytes_of_pairs text)
    else None

-- the bytes that a text spells as a value laid out so, at a node
abbrev pub value_in : Form → List ℕ → ℕ → Option (List ℕ)
value_in Flag text node = option_map (little_bytes 1) (option_and_then flag_bits (formula text node))
value_in (Signed width) text node = option_map (little_bytes (octets width)) (signed_text_bits width text node)
value_in (Unsigned width) text node = option_map (little_bytes (octets width))
    (option_and_then (unsigned_bits width) (formula text node))
value_in (Decimal real) text node = real_value (format_of real) text
value_in Characters text node = if_not_too_long text
value_in HexPairs text node = option_and_then if_not_too_long (bytes_of_pairs text)
value_in Unmodelled text node = None

-- the bytes that a text spells as a value of a type at a node
unfoldable pub value : DataType → List ℕ → ℕ → Option (List ℕ)
value kind text node = value_in (form kind) text node

-- it may spell another value at another node: the type's values are numbers, and it is a formula of `$NODEID`
abbrev pub may_vary : DataType → List ℕ → Bool
may_vary kind text = is_some (fixed_len kind) && has_node (formula_in text)

-- ---- the bytes

-- bytes, each below 256, that are a value laid out so
abbrev pub IsLaidOut : Form → List ℕ → Type 0
IsLaidOut Flag bytes = (length bytes ≡ 1) × (get_or bytes 0 0 < 2)
IsLaidOut (Signed width) bytes = length bytes ≡ octets width
IsLaidOut (Unsigned width) bytes = length bytes ≡ octets width
IsLaidOut (Decimal real) bytes = length bytes ≡ real_octets real
IsLaidOut Characters bytes = length bytes ≤ longest_value
IsLaidOut HexPairs bytes = length bytes ≤ longest_value
IsLaidOut Unmodelled bytes = ⊥

-- bytes that are a value of a type: of a REAL an infinity or a NaN too, as a frame may bring them
abbrev pub IsValueOf : DataType → List ℕ → Type 0
IsValueOf kind bytes = AreBytes bytes × IsLaidOut (form kind) bytes

-- the same of a value that a text can spell: no text spells an infinity or a NaN
abbrev pub FitsForm : Form → List ℕ → Type 0
FitsForm Flag bytes = IsLaidOut Flag bytes
FitsForm (Signed width) bytes = IsLaidOut (Signed width) bytes
FitsForm (Unsigned width) bytes = IsLaidOut (Unsigned width) bytes
FitsForm (Decimal real) bytes = IsLaidOut (Decimal real) bytes × IsFinite (format_of real) bytes
FitsForm Characters bytes = IsLaidOut Characters bytes
FitsForm HexPairs bytes = IsLaidOut HexPairs bytes
FitsForm Unmodelled bytes = IsLaidOut Unmodelled bytes

-- bytes that are a value of a type, and that a text can spell
abbrev pub Fits : DataType → List ℕ → Type 0
Fits kind bytes = AreBytes bytes × FitsForm (form kind) bytes

-- 0, or the empty string, laid out so
abbrev pub zero_of_form : Form → List ℕ
zero_of_form Flag = 0 ∷ []
zero_of_form (Signed width) = replicate (octets width) 0
zero_of_form (Unsigned width) = replicate (octets width) 0
zero_of_form (Decimal real) = replicate (real_octets real) 0
zero_of_form Characters = []
zero_of_form HexPairs = []
zero_of_form Unmodelled = []

-- 0, or the empty string: the value of an entry without a default (CiA 306)
abbrev pub zero_value : DataType → List ℕ
zero_value kind = zero_of_form (form kind)

-- the number that the bytes of a value laid out so are
abbrev pub number_in_form : Form → List ℕ → Option ℤ
number_in_form Flag bytes = Some (pos (little_number 1 bytes))
number_in_form (Signed width) bytes = Some (twos_complement (octets width) (little_number (octets width) bytes))
number_in_form (Unsigned width) bytes = Some (pos (little_number (octets width) bytes))
number_in_form (Decimal real) bytes = None
number_in_form Characters bytes = None
number_in_form HexPairs bytes = None
number_in_form Unmodelled bytes = None

-- the number that the bytes of a BOOLEAN or an integer are
unfoldable pub number_in : DataType → List ℕ → Option ℤ
number_in kind bytes = number_in_form (form kind) bytes

-- ---- to text

-- each byte as two upper-case hexadecimal digits
abbrev pub pairs_of : List ℕ → List ℕ
pairs_of bytes = flat_map byte_digits bytes

-- the text of a value laid out so
abbrev pub text_of_value_in : Form → List ℕ → List ℕ
text_of_value_in Flag bytes = decimal (little_number 1 bytes)
text_of_value_in (Signed width) bytes = signed_decimal (twos_complement (octets width)
    (little_number (octets width) bytes))
-- the pairs of the bytes, the highest first, are the number's 2 to 16 digits, two for each byte
text_of_value_in (Unsigned width) bytes = codes "0x" ++ pairs_of (reverse bytes)
text_of_value_in (Decimal real) bytes = exact_text (format_of real) bytes
text_of_value_in Characters bytes = bytes
text_of_value_in HexPairs bytes = pairs_of bytes
text_of_value_in Unmodelled bytes = []

-- the text of a value in a DCF (CiA 306): 0 or 1, decimal for INTEGERn, `0x` and all digits for UNSIGNEDn, the exact
-- decimal number for REALn, upper-case pairs for bytes (own)
unfoldable pub text_of_value : DataType → List ℕ → List ℕ
text_of_value kind bytes = text_of_value_in (form kind) bytes
