-- Mapped entries one after the other.
use Rattle.std.proofs.Common.{◌≡◌, ℕ, suc, ◌+◌, ◌*◌, ◌/◌, ◌%◌, ◌^◌, ◌<◌, ◌≤◌, List, [], ◌∷◌, length, get_or, drop, refl}
use Rattle.std.proofs.Common.{sym, ap, ◌∙◌, arith}
use Rattle.std.proofs.Math.Nat.{mul_assoc}
use Rattle.std.proofs.Math.Seq.{drop-cons}
use Rattle.std.proofs.lemmas.Nat.{pow-add}
use Rattle.std.proofs.lemmas.List.{drop_all, length-append}
use Rattle.std.proofs.lemmas.List.Sums.{sum_by-cons}
use Rattle.byteorder.specs.Endian.{little_bytes}
use Rattle.co_dict.specs.Mappings.{mapped_length, mapped_place, mapping_bits}
use Rattle.co_dict.specs.Values.{Values, number_at}
use Rattle.pdo_rules.specs.Bits.{number_of}
use Rattle.pdo_rules.specs.Packing.{bytes_begun, entry_bits, payload_of, packed_bits}
use Rattle.pdo_rules.proofs.BitLemmas.{length-low_bits, number-append, number-low_bits}

-- ---- what is left of a mapping

pub left : (mapping : List ℕ) (i d : ℕ) → i < length mapping
    → drop i mapping ≡ get_or mapping i d ∷ drop (i + 1) mapping
left mapping i d within =
    let next : suc i ≡ i + 1 = omega arith in
    drop-cons mapping i d within ∙ ap (λ n. get_or mapping i d ∷ drop n mapping) next

pub bits_left : (mapping : List ℕ) (i d : ℕ) → i < length mapping
    → mapping_bits (drop i mapping) ≡ mapped_length (get_or mapping i d) + mapping_bits (drop (i + 1) mapping)
bits_left mapping i d within = ap mapping_bits (left mapping i d within)
    ∙ sum_by-cons mapped_length (get_or mapping i d) (drop (i + 1) mapping)

-- ---- packing

module _ (values : Values) where
  -- a PDO has as many bits as its mapping
  pub length-packed_bits : (mapping : List ℕ) → length (packed_bits values mapping) ≡ mapping_bits mapping
  length-packed_bits [] = refl
  length-packed_bits (entry ∷ mapping) =
      length-append (entry_bits values entry) (packed_bits values mapping)
      ∙ ap (λ (n : ℕ). n + length (packed_bits values mapping))
      (length-low_bits (mapped_length entry) (number_at 8 values (mapped_place entry)))
      ∙ ap (λ (n : ℕ). mapped_length entry + n) (length-packed_bits mapping)
      ∙ sym (sum_by-cons mapped_length entry mapping)

  pub bytes_of_packed : (mapping : List ℕ) → (payload_of values mapping).1 ≡ bytes_begun (mapping_bits mapping)
  unfolding payload_of
  bytes_of_packed mapping = ap bytes_begun (length-packed_bits mapping)

  -- the number of a PDO: its first entry's bits below those of the others
  number-payload_of : (entry : ℕ) (mapping : List ℕ)
      → number_of (packed_bits values (entry ∷ mapping))
      ≡ number_at 8 values (mapped_place entry) % 2 ^ mapped_length entry
      + 2 ^ mapped_length entry * number_of (packed_bits values mapping)
  number-payload_of entry mapping =
      let first = entry_bits values entry in
      let count = length-low_bits (mapped_length entry) (number_at 8 values (mapped_place entry)) in
      number-append first (packed_bits values mapping)
      ∙ ap (λ (n : ℕ). number_of first + 2 ^ n * number_of (packed_bits values mapping)) count
      ∙ ap (λ (n : ℕ). n + 2 ^ mapped_length entry * number_of (packed_bits values mapping))
      (number-low_bits (mapped_length entry) (number_at 8 values (mapped_place entry)))

  -- one more entry at the next free position
  pub packed_next : (mapping : List ℕ) (i d frame moved position : ℕ) → i < length mapping
      → moved ≡ 2 ^ position * (number_at 8 values (mapped_place (get_or mapping i d)) % 2 ^ mapped_length
      (get_or mapping i d))
      → frame + moved + 2 ^ (position + mapped_length (get_or mapping i d)) * number_of
      (packed_bits values (drop (i + 1) mapping))
      ≡ frame + 2 ^ position * number_of (packed_bits values (drop i mapping))
  packed_next mapping i d frame moved position within is =
      let entry : ℕ = get_or mapping i d in
      let low : ℕ = number_at 8 values (mapped_place entry) % 2 ^ mapped_length entry in
      let rest : ℕ = number_of (packed_bits values (drop (i + 1) mapping)) in
      let all : number_of (packed_bits values (drop i mapping))
      ≡ low + 2 ^ mapped_length entry * rest = ap (λ m. number_of (packed_bits values m)) (left mapping i d within)
      ∙ number-payload_of entry (drop (i + 1) mapping) in
      let above : 2 ^ (position + mapped_length entry) * rest ≡ 2 ^ position * (2 ^ mapped_length entry * rest) =
      ap (λ (n : ℕ). n * rest) (pow-add 2 position (mapped_length entry))
      ∙ mul_assoc (2 ^ position) (2 ^ mapped_length entry) rest in
      let spread : 2 ^ position * (low + 2 ^ mapped_length entry * rest)
      ≡ 2 ^ position * low + 2 ^ position * (2 ^ mapped_length entry * rest) = omega arith in
      ap (λ (n : ℕ). frame + n + 2 ^ (position + mapped_length entry) * rest) is
      ∙ ap (λ (n : ℕ). frame + 2 ^ position * low + n) above
      ∙ omega (arith, spread)
      ∙ ap (λ (n : ℕ). frame + 2 ^ position * n) (sym all)

  -- the frame of all entries is the PDO
  pub packed_all : (mapping : List ℕ) (i frame position : ℕ) (bytes : List ℕ) → length mapping ≤ i
      → bytes ≡ little_bytes 8 frame
      → frame + 2 ^ position * number_of (packed_bits values (drop i mapping)) ≡ number_of (packed_bits values mapping)
      → position + mapping_bits (drop i mapping) ≡ mapping_bits mapping
      → ◌≡◌ {A = List ℕ × ℕ} (bytes, (position + 7) / 8) (payload_of values mapping)
  unfolding payload_of number_of
  packed_all mapping i frame position bytes end are all count =
      let none : drop i mapping ≡ [] = drop_all i mapping end in
      let number : frame ≡ number_of (packed_bits values mapping) =
      omega (arith, sym (ap (λ m. frame + 2 ^ position * number_of (packed_bits values m)) none) ∙ all) in
      let bits : position ≡ length (packed_bits values mapping) =
      omega (arith, sym (ap (λ m. position + mapping_bits m) none) ∙ count, length-packed_bits mapping) in
      λ k. ((are ∙ ap (little_bytes 8) number) k, (bits k + 7) / 8)
