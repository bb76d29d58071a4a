-- What a frame says is what it was made of.
use Rattle.std.proofs.Common.{◌≡◌, ℕ, ◌+◌, ◌-◌, ◌*◌, ◌/◌, ◌%◌, ◌<◌, ◌≤◌, ◌==◌, Bool, true, false, List, [], ◌∷◌, length}
use Rattle.std.proofs.Common.{take, replicate, refl, ap, ◌∙◌, arith}
use Rattle.std.specs.Prelude.{nat_lt, nat_le, ◌&&◌, if◌then◌else◌}
use Rattle.std.proofs.lemmas.Bool.Decides.{nat_tests}
use Rattle.std.proofs.lemmas.List.{length-take, take_at}
use Rattle.byteorder.specs.Endian.{little_bytes}
use Rattle.byteorder.specs.Numbers.{little_number-reads_back}
use Rattle.co_sdo.specs.Frames.{command, entry_frame, has_toggle, is_last, is_last_piece, names, next_segment}
use Rattle.co_sdo.specs.Frames.{number_told, with_zeros, piece, place_named, toggle_bit}

-- ---- tests

pub same_test : (m n : ℕ) → m ≡ n → (m == n) ≡ true
same_test m n e = grind (arith, nat_tests)

pub other_test : (m n : ℕ) → m < n → (m == n) ≡ false
other_test m n h = grind (arith, nat_tests)

pub less_test : (m n : ℕ) → m < n → nat_lt m n ≡ true
less_test m n h = grind (arith, nat_tests)

pub not_less_test : (m n : ℕ) → n ≤ m → nat_lt m n ≡ false
not_less_test m n h = grind (arith, nat_tests)

pub most_test : (m n : ℕ) → m ≤ n → nat_le m n ≡ true
most_test m n h = grind (arith, nat_tests)

pub more_test : (m n : ℕ) → n < m → nat_le m n ≡ false
more_test m n h = grind (arith, nat_tests)

-- ---- frames that name an entry

pub named_again : (first : ℕ) (place : ℕ × ℕ) (bytes : List ℕ) → place.0 < 0x10000
    → place_named (entry_frame first place bytes) ≡ place
named_again first place bytes h = ap (λ (index : ℕ). (index, place.1))
    (little_number-reads_back 2 place.0 (place.1 ∷ with_zeros 4 bytes) h)

pub names_itself : (first : ℕ) (place : ℕ × ℕ) (bytes : List ℕ) → place.0 < 0x10000
    → names place (entry_frame first place bytes) ≡ true
names_itself first place bytes h =
    let itself : (place.0 == place.0) && (place.1 == place.1)
    ≡ true = rw (same_test place.0 place.0 refl, same_test place.1 place.1 refl) refl in
    ap (λ (named : ℕ × ℕ). (named.0 == place.0) && (named.1 == place.1)) (named_again first place bytes h) ∙ itself

pub told_again : (first : ℕ) (place : ℕ × ℕ) (n : ℕ) → n < 0x100000000
    → number_told (entry_frame first place (little_bytes 4 n)) ≡ n
told_again first place n h = little_number-reads_back 4 n [] h

-- ---- segments

-- the command byte of a segment of so many bytes
abbrev pub first_of : Bool → Bool → ℕ → ℕ
first_of toggle last count = toggle_bit toggle + 2 * (7 - count) + (if last then 1 else 0)

first_low : (toggle last : Bool) (count : ℕ) → first_of toggle last count < 0x20
first_low true true count = omega arith
first_low true false count = omega arith
first_low false true count = omega arith
first_low false false count = omega arith

first_toggle : (toggle last : Bool) (count : ℕ) → first_of toggle last count / 0x10 * 0x10 ≡ toggle_bit toggle
first_toggle true true count = omega arith
first_toggle true false count = omega arith
first_toggle false true count = omega arith
first_toggle false false count = omega arith

first_count : (toggle last : Bool) (count : ℕ) → count ≤ 7 → 7 - first_of toggle last count / 2 % 8 ≡ count
first_count true true count h = omega arith
first_count true false count h = omega arith
first_count false true count h = omega arith
first_count false false count h = omega arith

first_last : (toggle last : Bool) (count : ℕ) → (first_of toggle last count % 2 == 1) ≡ last
first_last true true count = same_test _ _ (omega arith)
first_last true false count = other_test _ _ (omega arith)
first_last false true count = same_test _ _ (omega arith)
first_last false false count = other_test _ _ (omega arith)

few_taken : (rest : List ℕ) → length (take 7 rest) ≤ 7
few_taken rest = let e = length-take 7 rest in omega (arith, e)

module _ (toggle : Bool) (rest : List ℕ) where
  pub segment_low : nat_lt (command (next_segment toggle rest)) 0x20 ≡ true
  segment_low = less_test _ _ (first_low toggle (is_last_piece rest) (length (take 7 rest)))

  pub segment_no_abort : (command (next_segment toggle rest) == 0x80) ≡ false
  segment_no_abort = let low = first_low toggle (is_last_piece rest) (length (take 7 rest))
      in other_test _ _ (omega arith)

  pub segment_toggle : has_toggle toggle (next_segment toggle rest) ≡ true
  segment_toggle = same_test _ _ (first_toggle toggle (is_last_piece rest) (length (take 7 rest)))

  pub segment_piece : piece (next_segment toggle rest) ≡ take 7 rest
  segment_piece =
      ap (λ (count : ℕ). take count (with_zeros 7 (take 7 rest)))
      (first_count toggle (is_last_piece rest) (length (take 7 rest)) (few_taken rest))
      ∙ take_at (take 7 rest) (replicate (7 - length (take 7 rest)) 0) (length (take 7 rest)) refl

  pub segment_last : is_last (next_segment toggle rest) ≡ is_last_piece rest
  segment_last = first_last toggle (is_last_piece rest) (length (take 7 rest))
