-- How the mapping of a PDO is read.
use Rattle.std.proofs.Common.{◌≡◌, ℕ, ◌+◌, List, [], ◌∷◌, ◌++◌, map, sym, ap, ◌∙◌, arith}
use Rattle.std.specs.List.{range_with_len}
use Rattle.std.proofs.lemmas.List.FromFn.{map-range_with_len_more}

-- one more is read
pub one_more : (entry : ℕ → ℕ) (entries : List ℕ) (i word : ℕ) → word ≡ entry (i + 1)
    → entries ≡ map entry (range_with_len 1 i)
    → entries ++ word ∷ [] ≡ map entry (range_with_len 1 (i + 1))
one_more entry entries i word read so_far =
    ap (λ done. done ++ word ∷ []) so_far
    ∙ ap (λ (w : ℕ). map entry (range_with_len 1 i) ++ w ∷ []) read
    ∙ sym (map-range_with_len_more entry 1 i (i + 1) (omega arith))
