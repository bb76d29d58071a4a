-- Where a search for a byte finds it.
use Rattle.std.proofs.Common.{◌≡◌, ℕ, ◌<◌, ltb, Bool, true, false, cond, List, length, slice_index, None, Some, Option}
use Rattle.std.proofs.Common.{refl, sym, ap, ◌∙◌, arith}
use Rattle.std.specs.List.{position, position_or_len}
use Rattle.std.proofs.lemmas.Bool.Decides.{Decides-ltb}
use Rattle.std.proofs.lemmas.List.Sums.{position_or_len_is}
use Rattle.memchr.specs.Find.{IsFirstByte}

not_true : (t : Bool) → ¬ (t ≡ true) → t ≡ false
not_true true h = absurd (h refl)
not_true false h = refl

not_below : (n : ℕ) → ltb n n ≡ false
not_below n = not_true (ltb n n) (λ h. let l : n < n = (Decides-ltb n n).0 h in omega arith)

-- the first byte that passes is the position
pub first_is_position : (test : ℕ → Bool) (bytes : List ℕ) (r : Option ℕ) → IsFirstByte test bytes r
    → r ≡ position test bytes
first_is_position test bytes None h =
    let n : position_or_len test bytes ≡ length bytes = position_or_len_is test bytes (length bytes) 0 (omega arith)
    (λ k l. not_true (test (slice_index bytes k)) (h k (omega arith) l)) (λ l. absurd (omega arith)) in
    sym (ap (λ i. cond (ltb i (length bytes)) (Some i) None) n
    ∙ ap (λ t. cond t (Some (length bytes)) None) (not_below (length bytes)))
first_is_position test bytes (Some i) h =
    let n : position_or_len test bytes ≡ i = position_or_len_is test bytes i 0 (omega (arith, h.0.high))
    (λ k l. not_true (test (slice_index bytes k)) (h.0.before k (omega arith) l)) (λ l. h.1) in
    sym (ap (λ j. cond (ltb j (length bytes)) (Some j) None) n
    ∙ ap (λ t. cond t (Some i) None) ((Decides-ltb i (length bytes)).1 h.0.high))
