-- Bits of a frame, entry by entry.
use Rattle.std.proofs.Common.{◌≡◌, ℕ, zero, suc, ◌+◌, ◌/◌, ◌%◌, ◌^◌, ◌-◌, ◌<◌, ◌≤◌, List, ◌∷◌, length, get_or, take}
use Rattle.std.proofs.Common.{drop, sym, ap, ◌∙◌, arith}
use Rattle.std.proofs.Math.Nat.{div-div-eq-div-mul, pow-succ'}
use Rattle.std.proofs.lemmas.List.{drop_all}
use Rattle.byteorder.proofs.Bytes.{take-bytes_low_first}
use Rattle.byteorder.specs.Endian.{little_bytes}
use Rattle.co_dict.specs.Mappings.{mapped_length}
use Rattle.pdo_rules.specs.Bits.{low_bits, number_of}
use Rattle.pdo_rules.specs.Packing.{after_entries, bits_for, bytes_begun, value_of_bits}
use Rattle.pdo_rules.proofs.BitLemmas.{length-low_bits, low_bits-suc, low_bits-zero, number-low_bits}
use Rattle.pdo_rules.proofs.PackLemmas.{left}

-- ---- bits behind a position

behind : (position count n : ℕ) → drop position (low_bits (position + count) n) ≡ low_bits count (n / 2 ^ position)
behind zero count n =
    let none : 0 + count ≡ count = omega arith in
    let same : n / 2 ^ 0 ≡ n = omega arith in
    ap (λ m. low_bits m n) none ∙ ap (low_bits count) (sym same)
behind (suc position) count n =
    let one : suc position + count ≡ suc (position + count) = omega arith in
    let halves : n / 2 / 2 ^ position ≡ n / 2 ^ suc position = div-div-eq-div-mul n 2 (2 ^ position)
    ∙ ap (λ (m : ℕ). n / m) (sym (pow-succ' 2 position)) in
    ap (λ m. drop (suc position) (low_bits m n)) one
    ∙ ap (drop (suc position)) (low_bits-suc (position + count) n)
    ∙ behind position count (n / 2)
    ∙ ap (low_bits count) halves

front : (count more n : ℕ) → take count (low_bits (count + more) n) ≡ low_bits count n
front zero more n = sym (low_bits-zero n)
front (suc count) more n =
    let one : suc count + more ≡ suc (count + more) = omega arith in
    ap (λ m. take (suc count) (low_bits m n)) one
    ∙ ap (take (suc count)) (low_bits-suc (count + more) n)
    ∙ ap (λ bits. n % 2 ∷ bits) (front count more (n / 2))
    ∙ sym (low_bits-suc count n)

-- the bits of a mapping entry at a position are those of the number there
pub bits_there : (entry position n : ℕ) → position + mapped_length entry ≤ 64
    → bits_for entry position (low_bits 64 n) ≡ low_bits (mapped_length entry) (n / 2 ^ position)
unfolding bits_for
bits_there entry position n within =
    let count : ℕ = mapped_length entry in
    let more : ℕ = 64 - (position + count) in
    let all : 64 ≡ position + (count + more) = omega arith in
    ap (λ m. take count (drop position (low_bits m n))) all
    ∙ ap (take count) (behind position (count + more) n)
    ∙ front count more (n / 2 ^ position)

-- and their value that of this number
pub value_there : (entry position n : ℕ) (bytes : List ℕ) → position + mapped_length entry ≤ 64
    → bytes ≡ little_bytes 8 (n / 2 ^ position % 2 ^ mapped_length entry)
    → take (bytes_begun (mapped_length entry)) bytes ≡ value_of_bits (bits_for entry position (low_bits 64 n))
value_there entry position n bytes within are =
    let count : ℕ = mapped_length entry in
    let x : ℕ = n / 2 ^ position % 2 ^ count in
    let bits = bits_there entry position n within in
    let few : bytes_begun count ≤ 8 = omega arith in
    let size : length (bits_for entry position (low_bits 64 n)) ≡ count = ap length bits
    ∙ length-low_bits count (n / 2 ^ position) in
    let number : number_of (bits_for entry position (low_bits 64 n)) ≡ x = ap number_of bits
    ∙ number-low_bits count (n / 2 ^ position) in
    ap (take (bytes_begun count)) are
    ∙ take-bytes_low_first 0 8 (bytes_begun count) x few
    ∙ ap (λ m. little_bytes (bytes_begun m) x) (sym size)
    ∙ ap (little_bytes (bytes_begun (length (bits_for entry position (low_bits 64 n))))) (sym number)

-- ---- entry by entry

module _ {S : Type 0} (turn : ℕ → List ℕ → S → S) (mapping : List ℕ) (bits : List ℕ) (s : S) (i position : ℕ) where
  pub entry_next : i < length mapping → after_entries turn position (drop i mapping) bits s
      ≡ after_entries turn (position + mapped_length (get_or mapping i 0)) (drop (i + 1) mapping) bits
      (turn (get_or mapping i 0) (bits_for (get_or mapping i 0) position bits) s)
  entry_next within = ap (λ m. after_entries turn position m bits s) (left mapping i 0 within)

  pub entries_end : length mapping ≤ i → after_entries turn position (drop i mapping) bits s ≡ s
  entries_end end = ap (λ m. after_entries turn position m bits s) (drop_all i mapping end)
