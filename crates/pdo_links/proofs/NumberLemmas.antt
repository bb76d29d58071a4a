-- What a walk over the numbers of PDOs puts behind what was there first.
use Rattle.std.proofs.Common.{◌≡◌, ◌∙◌, ℕ, zero, suc, ◌+◌, ◌-◌, ◌<◌, ◌≤◌, List, [], ◌++◌, append_assoc, append-nil, ap}
use Rattle.std.proofs.Common.{arith, sym}
use Rattle.std.specs.List.{flat_map, range_with_len}

module _ {Y : Type 0} (f : ℕ → List Y) (first : List Y) where
  -- with what is found of the numbers that are left it is all
  abbrev pub IsOfAll : List Y → ℕ → Type 0
  IsOfAll found number = (n : ℕ) → n + number ≡ 513
      → found ++ flat_map f (range_with_len number n) ≡ first ++ flat_map f (range_with_len 1 512)

  pub begun : (found : List Y) → found ≡ first → IsOfAll found 1
  begun found none n is =
      let all : n ≡ 512 = omega (arith, is) in
      ap (λ (ys : List Y). ys ++ flat_map f (range_with_len 1 n)) none
      ∙ ap (λ (k : ℕ). first ++ flat_map f (range_with_len 1 k)) all

  pub walked : (found more : List Y) (number : ℕ) → more ≡ found ++ f number → IsOfAll found number
      → IsOfAll more (number + 1)
  walked found more number added so_far n left =
      let one : suc n + number ≡ 513 = omega (arith, left) in
      ap (λ (ys : List Y). ys ++ flat_map f (range_with_len (number + 1) n)) added
      ∙ append_assoc found (f number) (flat_map f (range_with_len (number + 1) n)) ∙ so_far (suc n) one

  -- numbers of which nothing is found
  left_out : (d number n : ℕ) → ((k : ℕ) → number ≤ k → k < number + d → f k ≡ [])
      → flat_map f (range_with_len number (d + n)) ≡ flat_map f (range_with_len (number + d) n)
  left_out zero number n none =
      let all : 0 + n ≡ n = omega arith in
      let same : number ≡ number + 0 = omega arith in
      ap (λ (k : ℕ). flat_map f (range_with_len number k)) all ∙ ap (λ (k : ℕ). flat_map f (range_with_len k n)) same
  left_out (suc d) number n none =
      let one : suc d + n ≡ suc (d + n) = omega arith in
      let same : number + 1 + d ≡ number + suc d = omega arith in
      ap (λ (k : ℕ). flat_map f (range_with_len number k)) one
      ∙ ap (λ (ys : List Y). ys ++ flat_map f (range_with_len (number + 1) (d + n)))
      (none number (omega arith) (omega arith))
      ∙ left_out d (number + 1) n (λ k low below. none k (omega arith) (omega arith))
      ∙ ap (λ (k : ℕ). flat_map f (range_with_len k n)) same

  pub further : (found : List Y) (number next : ℕ) → number ≤ next → next ≤ 513
      → ((k : ℕ) → number ≤ k → k < next → f k ≡ []) → IsOfAll found number → IsOfAll found next
  further found number next low high none so_far n left =
      let d : ℕ = next - number in
      let here : number + d ≡ next = omega (arith, low) in
      let all : d + n + number ≡ 513 = omega (arith, low, left) in
      sym (ap (λ (ys : List Y). found ++ ys)
      (left_out d number n (λ k from below. none k from (omega (arith, below, here)))
      ∙ ap (λ (k : ℕ). flat_map f (range_with_len k n)) here))
      ∙ so_far (d + n) all

  pub ended : (found : List Y) (number : ℕ) → number ≡ 513 → IsOfAll found number
      → found ≡ first ++ flat_map f (range_with_len 1 512)
  ended found number last all = sym (append-nil found) ∙ all 0 (omega (arith, last))
