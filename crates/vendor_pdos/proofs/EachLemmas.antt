-- Numbers that pass or fail one by one.
use Rattle.std.proofs.Common.{◌≡◌, ◌⊎◌, inl, inr, ℕ, zero, suc, ◌+◌, ◌-◌, ◌<◌, ◌≤◌, ◌||◌, Bool, true, false, ap, sym, ◌∙◌, subst, refl, arith}
use Rattle.std.specs.List.{list_any, range_with_len}
use Rattle.pdo_stations.proofs.RoomLemmas.{here_or_past}

module _ (test : ℕ → Bool) where
  -- whether some number from a first one on passes, below an end
  abbrev pub some_from : ℕ → ℕ → Bool
  some_from first last = list_any test (range_with_len first (last - first))

  or_same : (a b c d : Bool) → a || (b || c) ≡ d → (a || b) || c ≡ d
  or_same true b c d e = e
  or_same false b c d e = e

  -- one more number is noted
  pub some_noted : (first last : ℕ) (found after whole : Bool) → first < last → after ≡ (found || test first)
      → (found || some_from first last) ≡ whole → (after || some_from (first + 1) last) ≡ whole
  some_noted first last found after whole below noted so_far =
      let next : last - first ≡ suc (last - (first + 1)) = omega arith in
      let all : (found || list_any test (range_with_len first (suc (last - (first + 1))))) ≡ whole =
      subst (λ n. (found || list_any test (range_with_len first n)) ≡ whole) next so_far in
      ap (λ b. b || some_from (first + 1) last) noted
      ∙ or_same found (test first) (some_from (first + 1) last) whole all

  -- numbers that don't pass are left out
  left_out : (d first n : ℕ) → ((k : ℕ) → first ≤ k → k < first + d → test k ≡ false)
      → list_any test (range_with_len first (d + n)) ≡ list_any test (range_with_len (first + d) n)
  left_out zero first n none =
      let all : 0 + n ≡ n = omega arith in
      let same : first ≡ first + 0 = omega arith in
      ap (λ k. list_any test (range_with_len first k)) all ∙ ap (λ k. list_any test (range_with_len k n)) same
  left_out (suc d) first n none =
      let one : suc d + n ≡ suc (d + n) = omega arith in
      let same : first + 1 + d ≡ first + suc d = omega arith in
      ap (λ k. list_any test (range_with_len first k)) one
      ∙ ap (λ b. b || list_any test (range_with_len (first + 1) (d + n))) (none first (omega arith) (omega arith))
      ∙ left_out d (first + 1) n (λ k low below. none k (omega arith) (omega arith))
      ∙ ap (λ k. list_any test (range_with_len k n)) same

  pub some_further : (first next last : ℕ) (found whole : Bool) → first ≤ next → next ≤ last
      → ((k : ℕ) → first ≤ k → k < next → test k ≡ false) → (found || some_from first last) ≡ whole
      → (found || some_from next last) ≡ whole
  some_further first next last found whole low high none so_far =
      let long : last - first ≡ (next - first) + (last - next) = omega (arith, low, high) in
      let here : first + (next - first) ≡ next = omega (arith, low) in
      sym (ap (λ b. found || b) (ap (λ n. list_any test (range_with_len first n)) long
      ∙ left_out (next - first) first (last - next) (λ k from below. none k from (omega (arith, below, here)))
      ∙ ap (λ k. list_any test (range_with_len k (last - next))) here)) ∙ so_far

  or_false : (a : Bool) → a || false ≡ a
  or_false true = refl
  or_false false = refl

  -- none is left
  pub none_left : (first last : ℕ) (found whole : Bool) → last ≤ first → (found || some_from first last) ≡ whole
      → found ≡ whole
  none_left first last found whole past so_far =
      let none : last - first ≡ 0 = omega arith in
      sym (or_false found) ∙ subst (λ n. (found || list_any test (range_with_len first n)) ≡ whole) none so_far

  or_none : (a b : Bool) → a || b ≡ false → (a ≡ false) × (b ≡ false)
  or_none false b e = (refl, e)
  or_none true b e = cc

  -- where no number passes this one doesn't
  pub passes_none : (first n k : ℕ) → list_any test (range_with_len first n) ≡ false → first ≤ k → k < first + n
      → test k ≡ false
  passes_none first zero k e low below = absurd (omega arith)
  passes_none first (suc n) k e low below =
      let none : (test first ≡ false) × (list_any test (range_with_len (first + 1) n) ≡ false) =
      or_none (test first) (list_any test (range_with_len (first + 1) n)) e in
      by none.0 (here_or_past first k low) (λ past. passes_none (first + 1) n k none.1 past (omega arith))
    where
      by : test first ≡ false → (first ≡ k) ⊎ (first + 1 ≤ k) → (first + 1 ≤ k → test k ≡ false) → test k ≡ false
      by none (inl same) rest = ap test (sym same) ∙ none
      by none (inr past) rest = rest past
