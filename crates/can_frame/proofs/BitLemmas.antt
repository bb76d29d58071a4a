-- The bits of a number, by their places.
use Rattle.std.proofs.Common.{◌≡◌, ℕ, zero, suc, ◌+◌, ◌*◌, ◌-◌, ◌/◌, ◌%◌, ◌^◌, ◌<◌, ◌∷◌, ◌++◌, get_or}
use Rattle.std.proofs.Common.{refl, ap, sym, ◌∙◌, add_comm, arith}
use Rattle.std.specs.Int.{bit_at}
use Rattle.std.proofs.lemmas.Nat.{shr-shr, shr_split}
use Rattle.std.proofs.lemmas.Nat.Bits.{bit_at_cat_low}
use Rattle.can_frame.specs.WireBits.{bits}

pub bit_of : (width n place : ℕ) → place < width → get_or (bits width n) place 0 ≡ bit_at n (width - 1 - place)
bit_of zero n place h = absurd (omega arith)
bit_of (suc width) n zero h = let same : width ≡ suc width - 1 - 0 = omega arith in ap (bit_at n) same
bit_of (suc width) n (suc place) h =
    let same : width - 1 - place ≡ suc width - 1 - suc place = omega arith in
    bit_of width n place (omega arith) ∙ ap (bit_at n) same

-- the lower bits alone
pub low_bits : (width n low : ℕ) → n % 2 ^ width ≡ low → bits width n ≡ bits width low
low_bits width n low h = same_bits width (λ i less.
    sym (ap (λ m. bit_at m i) (whole h) ∙ bit_at_cat_low (n / 2 ^ width) width low i less))
  where
    same_bits : (w : ℕ) → ((i : ℕ) → i < w → bit_at low i ≡ bit_at n i) → bits w n ≡ bits w low
    same_bits zero same = refl
    same_bits (suc w) same = ap (λ bit. bit ∷ bits w n) (sym (same w (omega arith)))
        ∙ ap (λ xs. bit_at low w ∷ xs) (same_bits w (λ i less. same i (omega arith)))

    whole : n % 2 ^ width ≡ low → n ≡ n / 2 ^ width * 2 ^ width + low
    whole h = sym (shr_split n width) ∙ ap (λ m. n / 2 ^ width * 2 ^ width + m) h

-- the higher bits and the lower ones
pub parted_bits : (high low width n : ℕ) → high + low ≡ width → bits width n ≡ bits high (n / 2 ^ low) ++ bits low n
parted_bits zero low width n h = ap (λ w. bits w n) (omega arith)
parted_bits (suc high) low width n h =
    let more : suc (high + low) ≡ width = omega arith in
    let bit : bit_at (n / 2 ^ low) high ≡ bit_at n (high + low)
    = ap (λ m. m % 2) (shr-shr n low high) ∙ ap (bit_at n) (add_comm low high) in
    ap (λ w. bits w n) (sym more) ∙ ap (λ bit. bit ∷ bits (high + low) n) (sym bit)
    ∙ ap (λ xs. bit_at (n / 2 ^ low) high ∷ xs) (parted_bits high low (high + low) n refl)
