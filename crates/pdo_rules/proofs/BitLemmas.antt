-- Bits of numbers, put side by side.
use Rattle.std.proofs.Common.{◌≡◌, ℕ, zero, suc, ◌+◌, ◌*◌, ◌/◌, ◌%◌, ◌^◌, ◌<◌, ◌≤◌, List, [], ◌∷◌, ◌++◌, length, map}
use Rattle.std.proofs.Common.{refl, ap, ◌∙◌, arith}
use Rattle.std.specs.Int.{bit_at}
use Rattle.std.specs.List.{range_with_len}
use Rattle.std.proofs.Math.Nat.{mod-eq_of_lt, mod-lt, mul-le-mul_right, mul_assoc, mul_comm, one-le-pow, pow-succ'}
use Rattle.std.proofs.Math.Pow.{pow_mono}
use Rattle.std.proofs.lemmas.Nat.{mod-pow-add, pow-add}
use Rattle.std.proofs.lemmas.Nat.Bits.{bit_at_lowest, bit_at-suc}
use Rattle.pdo_rules.specs.Bits.{low_bits, number_of}

-- ---- the lowest bits

-- bit i + 1 of a number is bit i of its half
halved : (n i j count : ℕ) → j ≡ i + 1 → map (bit_at n) (range_with_len j count)
    ≡ map (bit_at (n / 2)) (range_with_len i count)
halved n i j zero e = refl
halved n i j (suc count) e =
    let next : j ≡ suc i = omega arith in
    let first : bit_at n j ≡ bit_at (n / 2) i = ap (bit_at n) next ∙ bit_at-suc n i in
    rw (first, halved n (i + 1) (j + 1) count (omega arith)) refl

pub low_bits-suc : (count n : ℕ) → low_bits (suc count) n ≡ n % 2 ∷ low_bits count (n / 2)
unfolding low_bits
low_bits-suc count n = rw (bit_at_lowest n, halved n 0 1 count (omega arith)) refl

pub low_bits-zero : (n : ℕ) → low_bits 0 n ≡ []
unfolding low_bits
low_bits-zero n = refl

-- as many as were asked for
pub length-low_bits : (count n : ℕ) → length (low_bits count n) ≡ count
length-low_bits zero n = ap length (low_bits-zero n)
length-low_bits (suc count) n = ap length (low_bits-suc count n) ∙ ap suc (length-low_bits count (n / 2))

-- and they are those of what the number leaves below
pub number-low_bits : (count n : ℕ) → number_of (low_bits count n) ≡ n % 2 ^ count
unfolding number_of
number-low_bits zero n = ap number_of (low_bits-zero n) ∙ omega arith
number-low_bits (suc count) n =
    let rest = number-low_bits count (n / 2) in
    let next : suc count ≡ count + 1 = omega arith in
    let split : n % 2 ^ (count + 1) ≡ n / 2 % 2 ^ count * 2 + n % 2 = mod-pow-add n count 1 in
    let all : n % 2 ^ suc count ≡ n / 2 % 2 ^ count * 2 + n % 2 = ap (λ (k : ℕ). n % 2 ^ k) next ∙ split in
    ap number_of (low_bits-suc count n) ∙ ap (λ (m : ℕ). n % 2 + 2 * m) rest ∙ omega (arith, all)

-- ---- bits behind others

pub number-append : (xs ys : List ℕ) → number_of (xs ++ ys) ≡ number_of xs + 2 ^ length xs * number_of ys
unfolding number_of
number-append [] ys = omega arith
number-append (x ∷ xs) ys =
    let rest = number-append xs ys in
    let above : 2 ^ suc (length xs) * number_of ys
    ≡ 2 * (2 ^ length xs * number_of ys) = ap (λ (k : ℕ). k * number_of ys) (pow-succ' 2 (length xs))
    ∙ mul_assoc 2 (2 ^ length xs) (number_of ys) in
    omega (arith, rest, above)

-- ---- bits moved up

module _ (n count position : ℕ) (within : position + count ≤ 64) where
  some : 0 < 2 ^ count
  some = one-le-pow count 2 (omega arith)

  below : n % 2 ^ count + 1 ≤ 2 ^ count
  below = let low : n % 2 ^ count < 2 ^ count = mod-lt n some in omega (arith, low)

  pub moved_bound : 2 ^ position * (n % 2 ^ count) + 2 ^ position ≤ 2 ^ (position + count)
  moved_bound =
      let high = mul-le-mul_right (2 ^ position) below in
      let all = pow-add 2 position count in
      grind (arith, high, all)

  pub moved_fits : 2 ^ position * (n % 2 ^ count) < 2 ^ 64
  moved_fits =
      let all : 2 ^ (position + count) ≤ 2 ^ 64 = pow_mono within in
      let one : 1 ≤ 2 ^ position = one-le-pow position 2 (omega arith) in
      omega (arith, moved_bound, all, one)

  -- a number of 128 bits loses none of them
  pub moved_is : n % (1 * 2 ^ count % 2 ^ 128) * 2 ^ position % 2 ^ 128 ≡ 2 ^ position * (n % 2 ^ count)
  moved_is =
      let less : count ≤ 64 = omega arith in
      let few : 2 ^ count ≤ 2 ^ 64 = pow_mono less in
      let mask : 1 * 2 ^ count % 2 ^ 128 ≡ 2 ^ count = mod-eq_of_lt (omega (arith, few)) ∙ omega arith in
      let turned : n % 2 ^ count * 2 ^ position ≡ 2 ^ position * (n % 2 ^ count) = mul_comm (n % 2 ^ count)
      (2 ^ position) in
      let small : n % 2 ^ count * 2 ^ position < 2 ^ 128 = omega (arith, turned, moved_fits) in
      ap (λ (m : ℕ). n % m * 2 ^ position % 2 ^ 128) mask ∙ mod-eq_of_lt small ∙ turned
