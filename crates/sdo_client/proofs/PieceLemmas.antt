-- A value in pieces of seven bytes.
use Rattle.std.proofs.Common.{◌≡◌, ℕ, zero, suc, ◌+◌, ◌-◌, ◌*◌, ◌/◌, ◌<◌, ◌≤◌, ◌==◌, Bool, true, false, not, List, []}
use Rattle.std.proofs.Common.{◌∷◌, length, drop, map, refl, sym, ap, ◌∙◌, arith, length-drop}
use Rattle.std.specs.Prelude.{if◌then◌else◌}
use Rattle.std.specs.List.{range_with_len}
use Rattle.std.proofs.lemmas.Bool.Decides.{nat_tests}
use Rattle.std.proofs.lemmas.List.{drop-drop}
use Rattle.sdo_client.specs.Exchanges.{Frames}
use Rattle.co_sdo.specs.Frames.{count_of_pieces, download_segments, from_piece, next_segment, segment_confirmed}
use Rattle.co_sdo.specs.Frames.{segment_request, toggle_of, upload_segments}

-- so many pieces, of which only the last has the end of the value
abbrev pub Cut : ℕ → List ℕ → Type 0
Cut zero rest = ⊥
Cut (suc zero) rest = length rest ≤ 7
Cut (suc (suc n)) rest = (7 < length rest) × Cut (suc n) (drop 7 rest)

cut : (n : ℕ) (rest : List ℕ) → length rest ≤ 7 * suc n → (1 ≤ n → 7 * n < length rest) → Cut (suc n) rest
cut zero rest fits full = omega arith
cut (suc n) rest fits full =
    let more : 7 * suc n < length rest = full (omega arith) in
    let left : length (drop 7 rest) ≡ length rest - 7 = length-drop 7 rest in
    (omega arith, cut n (drop 7 rest) (omega arith) (λ some. omega arith))

-- the number of pieces less one
abbrev pub further_pieces : List ℕ → ℕ
further_pieces value = count_of_pieces value - 1

count_case : (test : Bool) (len : ℕ) → (test ≡ true → len ≡ 0) → (test ≡ false → 1 ≤ len)
    → (suc ((if test then 1 else (len + 6) / 7) - 1) ≡ (if test then 1 else (len + 6) / 7))
    × ((len ≤ 7 * suc ((if test then 1 else (len + 6) / 7) - 1))
    × (1 ≤ (if test then 1 else (len + 6) / 7) - 1 → 7 * ((if test then 1 else (len + 6) / 7) - 1) < len))
count_case true len none some = let e = none refl in (refl, (omega arith, λ more. omega arith))
count_case false len none some = let e = some refl in (omega arith, (omega arith, λ more. omega arith))

is_zero : (n : ℕ) → (n == 0) ≡ true → n ≡ 0
is_zero n e = grind (arith, nat_tests)

is_some : (n : ℕ) → (n == 0) ≡ false → 1 ≤ n
is_some n e = grind (arith, nat_tests)

pub pieces_counted : (value : List ℕ) → suc (further_pieces value) ≡ count_of_pieces value
pieces_counted value = (count_case (length value == 0) (length value) (is_zero _) (is_some _)).0

pub value_cut : (value : List ℕ) → Cut (suc (further_pieces value)) value
value_cut value =
    let bounds = (count_case (length value == 0) (length value) (is_zero _) (is_some _)).1 in
    cut (further_pieces value) value bounds.0 bounds.1

-- ---- the frames piece by piece

pub toggles : (k : ℕ) → toggle_of (k + 1) ≡ not (toggle_of k)
toggles k = grind (arith, nat_tests)

pub next_piece : (value : List ℕ) (k : ℕ) → from_piece value (k + 1) ≡ drop 7 (from_piece value k)
next_piece value k = ap (λ (n : ℕ). drop n value) (omega arith) ∙ sym (drop-drop 7 (7 * k) value)

abbrev pub sent_pieces : ℕ → Bool → List ℕ → Frames
sent_pieces zero toggle rest = []
sent_pieces (suc n) toggle rest = (next_segment toggle rest, segment_confirmed toggle) ∷ sent_pieces n (not toggle)
    (drop 7 rest)

abbrev pub given_pieces : ℕ → Bool → List ℕ → Frames
given_pieces zero toggle rest = []
given_pieces (suc n) toggle rest = (segment_request toggle, next_segment toggle rest) ∷ given_pieces n (not toggle)
    (drop 7 rest)

module _ (value : List ℕ) where
  abbrev sent_pair : ℕ → List ℕ × List ℕ
  sent_pair k = (next_segment (toggle_of k) (from_piece value k), segment_confirmed (toggle_of k))

  abbrev given_pair : ℕ → List ℕ × List ℕ
  given_pair k = (segment_request (toggle_of k), next_segment (toggle_of k) (from_piece value k))

  sent_from : (n k : ℕ) → map sent_pair (range_with_len k n) ≡ sent_pieces n (toggle_of k) (from_piece value k)
  sent_from zero k = refl
  sent_from (suc n) k = ap (λ (pairs : Frames). sent_pair k ∷ pairs)
      (sent_from n (k + 1) ∙ ap (λ (t : Bool). sent_pieces n t (from_piece value (k + 1))) (toggles k)
      ∙ ap (sent_pieces n (not (toggle_of k))) (next_piece value k))

  given_from : (n k : ℕ) → map given_pair (range_with_len k n) ≡ given_pieces n (toggle_of k) (from_piece value k)
  given_from zero k = refl
  given_from (suc n) k = ap (λ (pairs : Frames). given_pair k ∷ pairs)
      (given_from n (k + 1) ∙ ap (λ (t : Bool). given_pieces n t (from_piece value (k + 1))) (toggles k)
      ∙ ap (given_pieces n (not (toggle_of k))) (next_piece value k))

  pub download_pieces : download_segments value ≡ sent_pieces (suc (further_pieces value)) false value
  download_pieces = sent_from (count_of_pieces value) 0
      ∙ ap (λ (n : ℕ). sent_pieces n false value) (sym (pieces_counted value))

  pub upload_pieces : upload_segments value ≡ given_pieces (suc (further_pieces value)) false value
  upload_pieces = given_from (count_of_pieces value) 0
      ∙ ap (λ (n : ℕ). given_pieces n false value) (sym (pieces_counted value))
