-- Sets of groups of identifiers.
use Rattle.std.proofs.Common.{◌≡◌, ℕ, zero, suc, ◌*◌, ◌<◌, ◌%◌, ◌==◌, ◌||◌, Bool, true, false, refl, sym, ap, ◌∙◌}
use Rattle.std.proofs.Common.{arith, bit_or, w64}
use Rattle.std.specs.Prelude.{◌^◌, max}
use Rattle.std.specs.Int.{bit_at}
use Rattle.std.proofs.lemmas.Bool.{eqb-false, eqb-true}
use Rattle.std.proofs.lemmas.Nat.Bits.{bit_at-lt, bit_at_or, bit_at_set_other, bit_at_set_same}

pub neither : (a b : Bool) → a || b ≡ false → (a ≡ false) × (b ≡ false)
neither true b h = absurd cc
neither false b h = (refl, h)

-- ---- bits

either_bit : (x y : ℕ) → x < 2 → y < 2 → (max x y == 1) ≡ (x == 1) || (y == 1)
either_bit zero zero h k = refl
either_bit zero (suc zero) h k = refl
either_bit zero (suc (suc n)) h k = absurd (omega arith)
either_bit (suc zero) zero h k = refl
either_bit (suc zero) (suc zero) h k = refl
either_bit (suc zero) (suc (suc n)) h k = absurd (omega arith)
either_bit (suc (suc n)) y h k = absurd (omega arith)

pub both_sets : (a b i : ℕ) → (bit_at (bit_or a b) i == 1) ≡ (bit_at a i == 1) || (bit_at b i == 1)
both_sets a b i = ap (λ n. n == 1) (bit_at_or a b i) ∙ either_bit (bit_at a i) (bit_at b i) (bit_at-lt a i)
    (bit_at-lt b i)

pub one_more : (bits k : ℕ) → k < 64 → (i : ℕ)
    → (bit_at (bit_or bits (1 * 2 ^ k % 18446744073709551616)) i == 1) ≡ (i == k) || (bit_at bits i == 1)
one_more bits k within i = by (i == k) refl
  where
    by : (t : Bool) → (i == k) ≡ t → (bit_at (bit_or bits (1 * 2 ^ k % 18446744073709551616)) i == 1) ≡ t
        || (bit_at bits i == 1)
    by true e = ap (λ n. bit_at (bit_or bits (1 * 2 ^ k % 18446744073709551616)) n == 1) (eqb-true i k e)
        ∙ ap (λ n. n == 1) (bit_at_set_same w64 bits k within)
    by false e = ap (λ n. n == 1) (bit_at_set_other w64 bits k within i (eqb-false i k e))

-- ---- sets that grow by what identifiers have alike

module _ (alike : ℕ → ℕ) (old new : ℕ → Bool) (id : ℕ) (is : (other : ℕ) → other < 0x800
    → new other ≡ (alike other == alike id) || old other) where
  pub still_out : (other : ℕ) → other < 0x800 → new other ≡ false → old other ≡ false
  still_out other within out = (neither (alike other == alike id) (old other) (sym (is other within) ∙ out)).1

  pub left_out : (other : ℕ) → other < 0x800 → new other ≡ false → (other == id) ≡ false
  left_out other within out = by (other == id) refl
    where
      by : (t : Bool) → (other == id) ≡ t → t ≡ false
      by true e = absurd (eqb-false (alike other) (alike id)
          (neither (alike other == alike id) (old other)
          (sym (is other within) ∙ out)).0 (ap alike (eqb-true other id e)))
      by false e = refl

pub never : (id other : ℕ) → id ≡ other → (other == id) ≡ false → ⊥
never id other same out = eqb-false other id out (sym same)
