-- The key CompactPDO (CiA 306), of which 0 alone is taken: this profile models no compact PDOs (own).
use Rattle.std.specs.Prelude.{ℕ, Bool, false, List, [], ◌∷◌, ◌==◌, ◌||◌, ◌&&◌, nat_lt, if◌then◌else◌, length, not}
use Rattle.std.specs.Prelude.{codes}
use Rattle.std.specs.List.{list_all}
use Rattle.std.specs.Str.{byte}
use Rattle.ini_text.specs.Name.{same}

-- the key
abbrev pub compact_pdo : List ℕ
compact_pdo = codes "CompactPDO"

-- `0`, `00` and so on
abbrev pub are_zeros : List ℕ → Bool
are_zeros bs = nat_lt 0 (length bs) && list_all (λ c. c == byte "0") bs

-- what follows `0x` or `0X`, or nothing
abbrev pub after_0x : List ℕ → List ℕ
after_0x [] = []
after_0x (a ∷ []) = []
after_0x (a ∷ b ∷ bs) = if (a == byte "0") && ((b == byte "x") || (b == byte "X")) then bs else []

-- `0`, `00`, `0x0` and so on, with no sign
abbrev pub is_zero_unsigned : List ℕ → Bool
is_zero_unsigned bs = are_zeros bs || are_zeros (after_0x bs)

-- a spelling of the number 0
unfoldable pub is_zero : List ℕ → Bool
is_zero [] = false
is_zero (b ∷ bs) = is_zero_unsigned (b ∷ bs) || ((b == byte "-") && is_zero_unsigned bs)

-- a key CompactPDO with another value than 0
abbrev pub is_misused : List ℕ → List ℕ → Bool
is_misused k v = same compact_pdo k && not (is_zero v)
