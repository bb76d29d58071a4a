-- The first line of a text.
use Rattle.std.proofs.Common.{◌≡◌, ℕ, suc, ◌+◌, ◌<◌, true, false, cond, not, eqb, List, [], ◌∷◌, length, take, drop}
use Rattle.std.proofs.Common.{refl, ap, ◌∙◌, arith}
use Rattle.std.specs.List.{before_first, after_first, position_or_len, onto_first}
use Rattle.base.specs.Lines.{lines_of}

after_byte : (b : ℕ) (cs : List ℕ) (n : ℕ)
    → (b ∷ take n cs) ∷ lines_of (drop (n + 1) cs) ≡ take (1 + n) (b ∷ cs) ∷ lines_of (drop (1 + n + 1) (b ∷ cs))
after_byte b cs n =
    let e : 1 + n ≡ suc n = omega arith in
    let f : 1 + n + 1 ≡ suc (n + 1) = omega arith in
    rw f (rw e refl)

-- the first line stands before the first LF, and the other lines are those of what stands after it
pub lines_of_first : (bs : List ℕ) → 0 < length bs
    → lines_of bs ≡ before_first (λ c. eqb c 10) bs ∷ lines_of (after_first (λ c. eqb c 10) bs)
unfolding lines_of
lines_of_first [] h = absurd (omega arith)
lines_of_first (b ∷ []) h = elim (eqb b 10) as (λ t. cond t ([] ∷ lines_of []) (onto_first b (lines_of []))
    ≡ take (cond (not t) (1 + 0) 0) (b ∷ [])
    ∷ lines_of (drop (cond (not t) (1 + 0) 0 + 1) (b ∷ []))) [ true ↦ refl | false ↦ refl ]
lines_of_first (b ∷ c ∷ cs) h =
    let n = position_or_len (λ c. eqb c 10) (c ∷ cs) in
    elim (eqb b 10) as (λ t. cond t ([] ∷ lines_of (c ∷ cs)) (onto_first b (lines_of (c ∷ cs)))
    ≡ take (cond (not t) (1 + n) 0) (b ∷ c ∷ cs) ∷ lines_of (drop (cond (not t) (1 + n) 0 + 1) (b ∷ c ∷ cs))) [
      | true ↦ refl
      | false ↦ ap (onto_first b) (lines_of_first (c ∷ cs) (omega arith)) ∙ after_byte b (c ∷ cs) n
    ]

-- an empty text has no lines
pub lines_of_empty : (bs : List ℕ) → length bs ≡ 0 → lines_of bs ≡ []
unfolding lines_of
lines_of_empty [] h = refl
lines_of_empty (b ∷ bs) h = absurd (omega arith)
