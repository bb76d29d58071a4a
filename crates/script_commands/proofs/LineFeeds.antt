-- The LFs of lines and of their text.
use Rattle.std.proofs.Common.{◌≡◌, ℕ, ◌-◌, Bool, true, false, cond, List, [], ◌∷◌, length, refl, ◌∙◌, arith}
use Rattle.std.specs.Prelude.{◌==◌, if◌then◌else◌}
use Rattle.std.specs.List.{onto_first, AllByRecursion, suffix_len}
use Rattle.std.proofs.lemmas.List.Sums.{sum_by-append, sum_by-cons, sum_by-take-le}
use Rattle.base.specs.Blanks.{trim_end}
use Rattle.base.specs.Lines.{lines_of, line_count, is_cr}
use Rattle.project_edits.specs.Eds.{text_of, text_line}

-- 1 for an LF, and 0 for another byte
abbrev is_lf : ℕ → ℕ
is_lf b = cond (b == 10) 1 0

-- another byte in front is no LF
pub other_first : (b : ℕ) (line : List ℕ) → (b == 10) ≡ false → line_count line ≡ 0 → line_count (b ∷ line) ≡ 0
other_first b line h none = let other : is_lf b ≡ 0 = rw h refl in omega (arith, sum_by-cons is_lf b line)

pub first_other : (b : ℕ) (line : List ℕ) → line_count (b ∷ line) ≡ 0 → ((b == 10) ≡ false) × (line_count line ≡ 0)
first_other b line none = by (b == 10) refl
  where
    by : (t : Bool) → (b == 10) ≡ t → ((b == 10) ≡ false) × (line_count line ≡ 0)
    by true h = let one : is_lf b ≡ 1 = rw h refl in absurd (omega (arith, sum_by-cons is_lf b line))
    by false h = (h, omega (arith, sum_by-cons is_lf b line))

-- no line has an LF
pub no_lf : (text : List ℕ) → AllByRecursion (λ line. line_count line ≡ 0) (lines_of text)
unfolding lines_of
no_lf [] = tt
no_lf (b ∷ text) = by (b == 10) refl (lines_of text) (no_lf text)
  where
    by : (t : Bool) → (b == 10) ≡ t → (lines : List (List ℕ)) → AllByRecursion (λ line. line_count line ≡ 0) lines
        → AllByRecursion (λ line. line_count line ≡ 0) (if t then [] ∷ lines else onto_first b lines)
    by true h lines none = (refl, none)
    by false h [] none = (other_first b [] h refl, tt)
    by false h (line ∷ lines) none = (other_first b line h none.0, none.1)

-- nor has one without the CRs at its end
pub no_lf_kept : (line : List ℕ) → line_count line ≡ 0 → line_count (trim_end is_cr line) ≡ 0
no_lf_kept line none = omega (arith, sum_by-take-le is_lf line (length line - suffix_len is_cr line))

-- a line that is ended has one
one_lf : (line : List ℕ) → line_count line ≡ 0 → line_count (text_line line) ≡ 1
one_lf line none = sum_by-append is_lf (trim_end is_cr line) (10 ∷ []) ∙ rw (no_lf_kept line none) refl

-- lines that are ended have as many LFs as there are lines
pub counted : (lines : List (List ℕ)) → AllByRecursion (λ line. line_count line ≡ 0) lines
    → line_count (text_of lines) ≡ length lines
counted [] none = refl
counted (line ∷ lines) none =
    let first = one_lf line none.0 in
    let others = counted lines none.1 in
    let all = sum_by-append is_lf (text_line line) (text_of lines) in
    omega (arith, first, others, all)
