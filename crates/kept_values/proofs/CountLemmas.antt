-- How many parts are counted.
use Rattle.std.proofs.Common.{◌≡◌, ℕ, suc, ◌≤◌, inl, inr, Bool, true, false, ◌||◌, List, [], ◌∷◌, length, All, Option}
use Rattle.std.proofs.Common.{slice_index_or, if◌then◌else◌, refl, ◌∙◌, arith}
use Rattle.std.proofs.lemmas.List.Elements.{All-head, All-tail}
use Rattle.kept_values.specs.Stale.{settled, Counts, IsOneMore}
use Rattle.kept_values.specs.Work.{IsToMake}

one_more_within : (P : Type 0) (m n k : ℕ) → IsOneMore P m n → m ≤ k → n ≤ suc k
one_more_within P m n k h within = elim h [ inl x ↦ omega (arith, x.1, within) | inr x ↦ omega (arith, x.1, within) ]

none_more : (P : Type 0) (m n : ℕ) → (P → ⊥) → IsOneMore P m n → m ≡ 0 → n ≡ 0
none_more P m n current h none = elim h [ inl x ↦ absurd (current x.0) | inr x ↦ x.1 ∙ none ]

module _ {N V : Type 0} (same : N → N → Bool) (now : N → Option V) where
  -- no more than there are parts
  pub at_most_all : (parts : List N) (held : N → Option V) (n : ℕ) → Counts same now parts held n → n ≤ length parts
  at_most_all [] held n none = omega (arith, none)
  at_most_all (p ∷ ps) held n c =
      let rest : c.0 ≤ length ps = at_most_all ps (settled same now (p ∷ []) held) c.0 c.2 in
      one_more_within (IsToMake (held p) (now p)) c.0 n (length ps) c.1 rest

  stays_current : (b : Bool) (x y : Option V) → y ≡ x → (if b || false then x else y) ≡ x
  stays_current true x y e = refl
  stays_current false x y e = e

  -- what is held as it is now stays so where a part is brought up to date
  all_current : (p : N) (ps : List N) (held : N → Option V) → All (λ q. held q ≡ now q) ps
      → All (λ q. settled same now (p ∷ []) held q ≡ now q) ps
  all_current p ps held all = λ k d within. by (slice_index_or ps k d) (all k d within)
    where
      by : (q : N) → held q ≡ now q → settled same now (p ∷ []) held q ≡ now q
      by q e = stays_current (same q p) (now q) (held q) e

  -- none where each part is held as it is now
  pub none_stale : (parts : List N) (held : N → Option V) (n : ℕ) → All (λ p. held p ≡ now p) parts
      → Counts same now parts held n → n ≡ 0
  none_stale [] held n all none = none
  none_stale (p ∷ ps) held n all c =
      let current : held p ≡ now p = All-head (λ q. held q ≡ now q) p ps all in
      let others : All (λ q. held q ≡ now q) ps = All-tail (λ q. held q ≡ now q) p ps all in
      let rest : c.0 ≡ 0 = none_stale ps (settled same now (p ∷ []) held) c.0 (all_current p ps held others) c.2 in
      none_more (IsToMake (held p) (now p)) c.0 n (λ s. s.0 current) c.1 rest
