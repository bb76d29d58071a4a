-- REAL32 and REAL64 of CiA 301: binary32 and binary64 of IEEE 754, as their bytes travel, the lowest first.
-- Of the bits of a format, `hid` is the weight of the exponent's field, `top` that of the sign, and `ones` a field of ones.
use Rattle.std.specs.Prelude.{◌≡◌, ℕ, ◌+◌, ◌-◌, ◌/◌, ◌%◌, ◌<◌, ◌==◌, Bool, nat_le, if◌then◌else◌, List, length, Option, Some, None}
use Rattle.std.specs.Float.{Float, Format, binary32, binary64, float_is_finite}
use Rattle.std.specs.Float.Ieee.{hid, ones, top, low, to_bits}
use Rattle.byteorder.specs.Endian.{little_number}
use Rattle.base.specs.Bytes.{AreBytes}
use Rattle.real_texts.specs.declared.real.Real.{Real}
use Rattle.real_texts.specs.declared.real.Real.TheVariants.{Real32, Real64}

-- the format of IEEE 754
abbrev pub format_of : Real → Format
format_of Real32 = binary32
format_of Real64 = binary64

-- the bytes of a value
abbrev pub octets : Format → ℕ
octets binary32 = 4
octets binary64 = 8

-- bytes that are a value, finite or not
abbrev pub AreReal : Format → List ℕ → Type 0
AreReal f bytes = AreBytes bytes × (length bytes ≡ octets f)

-- the number that the bytes are
abbrev pub bits_in : Format → List ℕ → ℕ
bits_in f bytes = little_number (octets f) bytes

-- the bit above all others
abbrev pub is_negative : Format → ℕ → Bool
is_negative f bits = nat_le (top f) bits

-- the field below it: all ones for an infinity and for what is no number (NaN)
abbrev pub exponent_field : Format → ℕ → ℕ
exponent_field f bits = bits % top f / hid f

-- the other bits, and above them the 1 that isn't written where the field isn't 0
abbrev pub significand : Format → ℕ → ℕ
significand f bits = bits % hid f + (if exponent_field f bits == 0 then 0 else hid f)

-- A finite number is significand * 2 ^ (field - 1) / 2 ^ low, and with field 0 as with field 1. So it is
-- significand * 2 ^ doublings / 2 ^ places, where one of the two is 0: cut subtraction makes it so.
abbrev pub doublings : Format → ℕ → ℕ
doublings f bits = (exponent_field f bits - 1) - low f

abbrev pub places : Format → ℕ → ℕ
places f bits = low f - (exponent_field f bits - 1)

-- bits of a number
abbrev pub AreFinite : Format → ℕ → Type 0
AreFinite f bits = exponent_field f bits < ones f

-- bytes of a number
abbrev pub IsFinite : Format → List ℕ → Type 0
IsFinite f bytes = AreFinite f (bits_in f bytes)

-- the bits of a float, where it is a number
abbrev pub finite_bits : Format → Float → Option ℕ
finite_bits f x = if float_is_finite x then Some (to_bits f x) else None
