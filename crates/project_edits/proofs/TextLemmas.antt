-- Texts without blanks at their ends.
use Rattle.std.proofs.Common.{◌≡◌, ℕ, zero, suc, ◌+◌, ◌-◌, ◌≤◌, Bool, true, false, cond, List, [], ◌∷◌, ◌++◌, reverse}
use Rattle.std.proofs.Common.{length, take, drop, refl, ap, ◌∙◌, sym, length-drop, take_all, take-append-drop, arith}
use Rattle.std.specs.List.{prefix_len, suffix_len}
use Rattle.std.proofs.Math.Seq.{take-append_seam}
use Rattle.std.proofs.lemmas.List.{reverse-append, reverse-reverse, length-reverse}
use Rattle.std.proofs.lemmas.Slice.Eq.{bytes_eq-Decides}
use Rattle.base.specs.Blanks.{is_blank, trim_start, trim_end, trim}
use Rattle.project_edits.specs.Forms.{is_plain, is_text}

module _ (p : ℕ → Bool) where
  -- nothing passes at the start
  abbrev IsSharp : List ℕ → Type 0
  IsSharp bs = prefix_len p bs ≡ 0

  -- what has lost its start has none to lose
  sharp_start : (bs : List ℕ) → IsSharp (trim_start p bs)
  sharp_start [] = refl
  sharp_start (b ∷ bs) = by (p b) refl (sharp_start bs)
    where
      one : (n : ℕ) → 1 + n ≡ suc n
      one n = omega arith

      by : (t : Bool) → p b ≡ t → IsSharp (trim_start p bs) → IsSharp (drop (cond t (1 + prefix_len p bs) 0) (b ∷ bs))
      by true h ih = rw (one (prefix_len p bs)) ih
      by false h ih = rw h refl

  -- nor has the front of what has none to lose
  sharp_take : (n : ℕ) (bs : List ℕ) → IsSharp bs → IsSharp (take n bs)
  sharp_take zero bs h = refl
  sharp_take (suc n) [] h = refl
  sharp_take (suc n) (b ∷ bs) h = by (p b) h
    where
      by : (t : Bool) → cond t (1 + prefix_len p bs) 0 ≡ 0 → cond t (1 + prefix_len p (take n bs)) 0 ≡ 0
      by true h = absurd (omega arith)
      by false h = refl

  -- what is left at the end, in reverse
  reversed : (bs : List ℕ) → reverse (trim_end p bs) ≡ trim_start p (reverse bs)
  reversed bs =
      let n : ℕ = prefix_len p (reverse bs) in
      let front : List ℕ = reverse (drop n (reverse bs)) in
      let whole : bs ≡ front ++ reverse (take n (reverse bs)) = sym (reverse-reverse bs)
      ∙ ap reverse (sym (take-append-drop n (reverse bs)))
      ∙ reverse-append (take n (reverse bs)) (drop n (reverse bs)) in
      let size : length front ≡ length bs - n = length-reverse (drop n (reverse bs)) ∙ length-drop n (reverse bs)
      ∙ ap (λ k. k - n) (length-reverse bs) in
      let same : take (length bs - n) bs ≡ front = ap (λ k. take k bs) (sym size) ∙ ap (take (length front)) whole
      ∙ take-append_seam front (reverse (take n (reverse bs))) in
      ap reverse same ∙ reverse-reverse (drop n (reverse bs))

  -- what has lost its end has none to lose
  pub trim_end_again : (bs : List ℕ) → trim_end p (trim_end p bs) ≡ trim_end p bs
  trim_end_again bs =
      let left : List ℕ = trim_end p bs in
      let none : suffix_len p left ≡ 0 = ap (prefix_len p) (reversed bs) ∙ sharp_start (reverse bs) in
      let most : length left ≤ length left - suffix_len p left = omega arith in
      take_all (length left - suffix_len p left) left most

  -- what has lost its ends has none to lose
  pub trimmed_again : (bs : List ℕ) → trim_end p (trim_start p (trim_end p (trim_start p bs)))
      ≡ trim_end p (trim_start p bs)
  trimmed_again bs =
      let kept : List ℕ = trim_end p (trim_start p bs) in
      let sharp : IsSharp kept = sharp_take _ (trim_start p bs) (sharp_start bs) in
      ap (λ n. trim_end p (drop n kept)) sharp ∙ trim_end_again (trim_start p bs)

-- what is cut from the rest of a line is a text, where its length and its bytes are those of one
pub trimmed_is_text : (rest : List ℕ) → is_plain (trim rest) ≡ true → is_text (trim rest) ≡ true
trimmed_is_text rest plain =
    rw plain ((bytes_eq-Decides (trim (trim rest)) (trim rest)).1 (trimmed_again is_blank rest))
