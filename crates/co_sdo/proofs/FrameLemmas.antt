-- Bytes one by one, and zeros where there are none.
use Rattle.std.proofs.Common.{◌≡◌, ℕ, ◌≤◌, List, [], ◌∷◌, length, get_or, refl, arith}
use Rattle.co_sdo.specs.Frames.{with_zeros}

pub four_padded : (bytes : List ℕ) → length bytes ≤ 4
    → get_or bytes 0 0 ∷ get_or bytes 1 0 ∷ get_or bytes 2 0 ∷ get_or bytes 3 0 ∷ [] ≡ with_zeros 4 bytes
four_padded [] h = refl
four_padded (a ∷ []) h = refl
four_padded (a ∷ b ∷ []) h = refl
four_padded (a ∷ b ∷ c ∷ []) h = refl
four_padded (a ∷ b ∷ c ∷ d ∷ []) h = refl
four_padded (a ∷ b ∷ c ∷ d ∷ e ∷ rest) h = absurd (omega arith)

pub seven_padded : (bytes : List ℕ) → length bytes ≤ 7
    → get_or bytes 0 0 ∷ get_or bytes 1 0 ∷ get_or bytes 2 0 ∷ get_or bytes 3 0 ∷ get_or bytes 4 0 ∷ get_or bytes 5 0
    ∷ get_or bytes 6 0 ∷ [] ≡ with_zeros 7 bytes
seven_padded [] h = refl
seven_padded (a ∷ []) h = refl
seven_padded (a ∷ b ∷ []) h = refl
seven_padded (a ∷ b ∷ c ∷ []) h = refl
seven_padded (a ∷ b ∷ c ∷ d ∷ []) h = refl
seven_padded (a ∷ b ∷ c ∷ d ∷ e ∷ []) h = refl
seven_padded (a ∷ b ∷ c ∷ d ∷ e ∷ f ∷ []) h = refl
seven_padded (a ∷ b ∷ c ∷ d ∷ e ∷ f ∷ g ∷ []) h = refl
seven_padded (a ∷ b ∷ c ∷ d ∷ e ∷ f ∷ g ∷ i ∷ rest) h = absurd (omega arith)
