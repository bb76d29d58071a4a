-- The lines of a trace (this profile's own).
use Rattle.std.specs.Prelude.{ℕ, ◌-◌, true, List, ◌∷◌, ◌++◌, length, replicate, codes, decimal}
use Rattle.std.specs.Fmt.{digit_glyph}
use Rattle.std.specs.List.{flat_map}
use Rattle.std.specs.Str.{byte}
use Rattle.base.specs.Digits.{byte_digits, identifier_digits}
use Rattle.can_frame.specs.Frames.{BaseFrame}

-- a number in ten decimal digits: 0 for each that it lacks
abbrev pub ten_digits : ℕ → List ℕ
ten_digits n = replicate (10 - length (decimal n)) (byte "0") ++ decimal n

-- a number of bytes, at most 8, in brackets
abbrev pub byte_count : ℕ → List ℕ
byte_count n = codes " [" ++ digit_glyph true n ∷ codes "]"

-- each byte as a space and two digits
abbrev pub spaced_bytes : List ℕ → List ℕ
spaced_bytes bytes = flat_map (λ b. byte " " ∷ byte_digits b) bytes

-- the line of a frame at a time: the time, the identifier, the number of bytes, and each byte
abbrev pub frame_line : ℕ → BaseFrame → List ℕ
frame_line time frame = ten_digits time ++ (byte " " ∷ identifier_digits frame.id
    ++ (byte_count (length frame.bytes) ++ spaced_bytes frame.bytes))
