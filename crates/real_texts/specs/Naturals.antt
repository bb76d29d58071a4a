-- Natural numbers of any size as limbs to the base 10^9, the lowest first, and their decimal digits.
use Rattle.std.specs.Prelude.{ℕ, suc, zero, ◌+◌, ◌*◌, ◌/◌, ◌%◌, ◌<◌, ◌==◌, if◌then◌else◌, List, [], ◌∷◌, ◌++◌, map, get_or}
use Rattle.std.specs.Int.Digits.{digits_of}
use Rattle.std.specs.Str.{byte}

-- what a limb counts to
abbrev pub billion : ℕ
billion = 1000000000

-- the number that limbs are
abbrev pub limbs_number : List ℕ → ℕ
limbs_number [] = 0
limbs_number (limb ∷ limbs) = limb + billion * limbs_number limbs

-- each is below the base
abbrev pub AreLimbs : List ℕ → Type 0
AreLimbs limbs = (i : ℕ) → get_or limbs i 0 < billion

-- the k lowest decimal digits of n, the highest first
abbrev pub low_digits : ℕ → ℕ → List ℕ
low_digits zero n = []
low_digits (suc k) n = low_digits k (n / 10) ++ ((byte "0" + n % 10) ∷ [])

-- all digits of n, without leading zeros but for `0` itself
abbrev pub all_digits : ℕ → List ℕ
all_digits n = if n == 0 then byte "0" ∷ [] else map (λ d. byte "0" + d) (digits_of 10 n)
