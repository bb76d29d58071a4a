-- Position p of a frame is bit p mod 8 of byte p div 8.
use Rattle.std.proofs.Common.{◌≡◌, ℕ, zero, suc, ◌+◌, ◌*◌, ◌/◌, ◌%◌, ◌^◌, ◌-◌, ◌<◌, List, [], ◌∷◌, ◌++◌, get_or, refl}
use Rattle.std.proofs.Common.{sym, ap, ◌∙◌, arith}
use Rattle.std.specs.Int.{bit_at, byte_at, bytes_low_first}
use Rattle.std.specs.Prelude.{slice_index}
use Rattle.std.proofs.Math.Nat.{div-div-eq-div-mul, pow-succ'}
use Rattle.std.proofs.Math.Pow.{mod-mod-pow}
use Rattle.std.proofs.lemmas.List.FromFn.{get_or-map-range_with_len}
use Rattle.std.proofs.lemmas.Nat.{div-mul-add, mod-pow-add, pow-add}
use Rattle.std.proofs.lemmas.Nat.Bits.{bit_at_lowest, bit_at-suc, bit_at-zero}
use Rattle.byteorder.specs.Endian.{little_from, little_number}
use Rattle.base.specs.Bytes.{AreBytes}
use Rattle.co_dict.specs.Values.{Values}
use Rattle.pdo_rules.specs.Bits.{low_bits, number_of}
use Rattle.pdo_rules.specs.Packing.{entry_bits, frame_bits, payload_of, packed_bits}
use Rattle.pdo_rules.proofs.BitLemmas.{low_bits-suc, low_bits-zero}

-- ---- bits of the bytes of a number

-- what is left below bit k + 1 and some more has bit k
bit_of_rest : (k more y : ℕ) → bit_at (y % 2 ^ (k + suc more)) k ≡ bit_at y k
bit_of_rest zero more y =
    let count : zero + suc more ≡ more + 1 = omega arith in
    let low : y % 2 ^ (more + 1) % 2 ≡ y % 2 = mod-mod-pow y more 1 in
    bit_at_lowest (y % 2 ^ (zero + suc more)) ∙ ap (λ (n : ℕ). y % 2 ^ n % 2) count ∙ low ∙ sym (bit_at_lowest y)
bit_of_rest (suc k) more y =
    let count : suc k + suc more ≡ k + suc more + 1 = omega arith in
    let split : y % 2 ^ (k + suc more + 1) ≡ y / 2 % 2 ^ (k + suc more) * 2 + y % 2 = mod-pow-add y (k + suc more) 1 in
    let low : y % 2 < 2 = omega arith in
    let half : y % 2 ^ (suc k + suc more) / 2 ≡ y / 2 % 2 ^ (k + suc more) =
    ap (λ (n : ℕ). y % 2 ^ n / 2) count ∙ ap (λ (n : ℕ). n / 2) split
    ∙ div-mul-add (y / 2 % 2 ^ (k + suc more)) 2 (y % 2) low in
    bit_at-suc (y % 2 ^ (suc k + suc more)) k ∙ ap (λ n. bit_at n k) half ∙ bit_of_rest k more (y / 2)
    ∙ sym (bit_at-suc y k)

bit_of_byte : (y k : ℕ) → k < 8 → bit_at (y % 256) k ≡ bit_at y k
bit_of_byte y k within =
    let all : 8 ≡ k + suc (7 - k) = omega arith in
    let rest : y % 2 ^ 8 ≡ y % 2 ^ (k + suc (7 - k)) = ap (λ (n : ℕ). y % 2 ^ n) all in
    ap (λ n. bit_at n k) rest ∙ bit_of_rest k (7 - k) y

bit_behind : (x m i : ℕ) → bit_at (x / 2 ^ m) i ≡ bit_at x (m + i)
bit_behind x m i = ap (λ (n : ℕ). n % 2)
    (div-div-eq-div-mul x (2 ^ m) (2 ^ i) ∙ ap (λ (n : ℕ). x / n) (sym (pow-add 2 m i)))

-- byte i + 1 of a number is byte i of what is above its lowest
byte_above : (i x : ℕ) → byte_at (suc i) x ≡ byte_at i (x / 256)
byte_above zero x = ap (λ (p : ℕ). x / p % 256) refl
byte_above (suc i) x = ap (λ (y : ℕ). y % 256)
    (ap (λ (p : ℕ). x / p) (pow-succ' 256 (suc i)) ∙ sym (div-div-eq-div-mul x 256 (256 ^ suc i)))

-- bit k of byte j is bit 8 j + k
bit_in_byte : (j k x : ℕ) → k < 8 → bit_at (byte_at j x) k ≡ bit_at x (8 * j + k)
bit_in_byte zero k x within = let place : k ≡ 8 * zero + k = omega arith in bit_of_byte x k within ∙ ap (bit_at x) place
bit_in_byte (suc j) k x within =
    let place : 8 + (8 * j + k) ≡ 8 * suc j + k = omega arith in
    let up : bit_at (x / 256) (8 * j + k) ≡ bit_at x (8 + (8 * j + k)) = bit_behind x 8 (8 * j + k) in
    ap (λ n. bit_at n k) (byte_above j x) ∙ bit_in_byte j k (x / 256) within ∙ up ∙ ap (bit_at x) place

place_of : (p : ℕ) → 8 * (p / 8) + p % 8 ≡ p
place_of p = omega arith

low_place : (p : ℕ) → p % 8 < 8
low_place p = omega arith

-- bit p of a number, from its bytes
bit_from_bytes : (p x : ℕ) → bit_at (byte_at (p / 8) x) (p % 8) ≡ bit_at x p
bit_from_bytes p x = bit_in_byte (p / 8) (p % 8) x (low_place p) ∙ ap (bit_at x) (place_of p)

-- ---- bytes of a frame

index_low : (i n x j : ℕ) → j < n → get_or (bytes_low_first i n x) j 0 ≡ byte_at (i + j) x
index_low i zero x j within = absurd (omega arith)
index_low i (suc n) x zero within = let same : i ≡ i + zero = omega arith in ap (λ m. byte_at m x) same
index_low i (suc n) x (suc j) within = let same : suc i + j ≡ i + suc j = omega arith
    in index_low (suc i) n x j (omega arith) ∙ ap (λ m. byte_at m x) same

byte_of_number : (i n j : ℕ) (bytes : List ℕ) → AreBytes bytes → j < n
    → byte_at j (little_from i n bytes) ≡ slice_index bytes (i + j)
byte_of_number i zero j bytes are within = absurd (omega arith)
byte_of_number i (suc n) zero bytes are within =
    let low : slice_index bytes i < 256 = are i in
    let same : i ≡ i + zero = omega arith in
    let first : (slice_index bytes i + 256 * little_from (suc i) n bytes) % 256
    ≡ slice_index bytes i = omega (arith, low) in
    first ∙ ap (slice_index bytes) same
byte_of_number i (suc n) (suc j) bytes are within =
    let low : slice_index bytes i < 256 = are i in
    let same : suc i + j ≡ i + suc j = omega arith in
    let above : (slice_index bytes i + 256 * little_from (suc i) n bytes) / 256
    ≡ little_from (suc i) n bytes = omega (arith, low) in
    byte_above j _ ∙ ap (byte_at j) above ∙ byte_of_number (suc i) n j bytes are (omega arith)
    ∙ ap (slice_index bytes) same

-- ---- positions

bit_of_bits : (bits : List ℕ) → ((p : ℕ) → slice_index bits p < 2) → (p : ℕ)
    → bit_at (number_of bits) p ≡ slice_index bits p
unfolding number_of
bit_of_bits [] are p = bit_at-zero p
bit_of_bits (bit ∷ bits) are zero =
    let low : bit < 2 = are 0 in
    let first : (bit + 2 * number_of bits) % 2 ≡ bit = omega (arith, low) in
    bit_at_lowest (bit + 2 * number_of bits) ∙ first
bit_of_bits (bit ∷ bits) are (suc p) =
    let low : bit < 2 = are 0 in
    let rest : (bit + 2 * number_of bits) / 2 ≡ number_of bits = omega (arith, low) in
    bit_at-suc (bit + 2 * number_of bits) p ∙ ap (λ n. bit_at n p) rest ∙ bit_of_bits bits (λ q. are (suc q)) p

-- each element is a bit
abbrev pub AreBits : List ℕ → Type 0
AreBits bits = (p : ℕ) → slice_index bits p < 2

bits_append : (xs ys : List ℕ) → AreBits xs → AreBits ys → AreBits (xs ++ ys)
bits_append [] ys some others p = others p
bits_append (x ∷ xs) ys some others zero = some 0
bits_append (x ∷ xs) ys some others (suc p) = bits_append xs ys (λ q. some (suc q)) others p

no_bits : AreBits []
no_bits p = omega arith

low_are_bits : (count n : ℕ) → AreBits (low_bits count n)
low_are_bits zero n p = let none : slice_index (low_bits 0 n) p ≡ 0 = ap (λ bits. slice_index bits p) (low_bits-zero n)
    in omega (arith, none)
low_are_bits (suc count) n zero = let low : slice_index (low_bits (suc count) n) 0
    ≡ n % 2 = ap (λ bits. slice_index bits 0) (low_bits-suc count n) in omega (arith, low)
low_are_bits (suc count) n (suc p) =
    let rest : slice_index (low_bits (suc count) n) (suc p)
    ≡ slice_index (low_bits count (n / 2)) p = ap (λ bits. slice_index bits (suc p)) (low_bits-suc count n) in
    omega (arith, rest, low_are_bits count (n / 2) p)

pub packed_are_bits : (values : Values) (mapping : List ℕ) → AreBits (packed_bits values mapping)
packed_are_bits values [] = no_bits
packed_are_bits values (entry ∷ mapping) = bits_append (entry_bits values entry) (packed_bits values mapping)
    (low_are_bits _ _) (packed_are_bits values mapping)

eighth : (p : ℕ) → p < 64 → p / 8 < 8
eighth p within = omega arith

from_zero : (n : ℕ) → 0 + n ≡ n
from_zero n = omega arith

pub into_position : (values : Values) (mapping : List ℕ) (p : ℕ) → p < 64
    → bit_at (slice_index (payload_of values mapping).0 (p / 8)) (p % 8) ≡ slice_index (packed_bits values mapping) p
unfolding payload_of
into_position values mapping p within =
    let bits = packed_bits values mapping in
    ap (λ n. bit_at n (p % 8)) (index_low 0 8 (number_of bits) (p / 8) (eighth p within)
    ∙ ap (λ j. byte_at j (number_of bits)) (from_zero (p / 8)))
    ∙ bit_from_bytes p (number_of bits)
    ∙ bit_of_bits bits (packed_are_bits values mapping) p

pub out_of_position : (bytes : List ℕ) (p : ℕ) → AreBytes bytes → p < 64
    → slice_index (frame_bits bytes) p ≡ bit_at (slice_index bytes (p / 8)) (p % 8)
unfolding low_bits
out_of_position bytes p are within =
    get_or-map-range_with_len (bit_at (little_number 8 bytes)) 0 64 p p 0 within (from_zero p)
    ∙ sym (bit_from_bytes p (little_number 8 bytes))
    ∙ ap (λ n. bit_at n (p % 8)) (byte_of_number 0 8 (p / 8) bytes are (eighth p within)
    ∙ ap (slice_index bytes) (from_zero (p / 8)))

pub ruleset positions = (into_position, out_of_position)
