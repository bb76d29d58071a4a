-- How often identifiers are had, counted to 2.
use Rattle.std.proofs.Common.{◌≡◌, ◌+◌, ◌==◌, ◌&&◌, not, ℕ, zero, suc, Bool, true, false, cond, List, [], ◌∷◌, ◌++◌}
use Rattle.std.proofs.Common.{length, filter, filter_map, Some, None, refl, sym, ap, ◌∙◌, length-append, arith}
use Rattle.std.specs.Prelude.{if◌then◌else◌, nat_le, slice_index_or}
use Rattle.std.proofs.Math.ListN.{replicate}
use Rattle.std.proofs.lemmas.Bool.{le-leb}
use Rattle.std.proofs.lemmas.List.Elements.{filter-append}
use Rattle.cia301.specs.CobIds.{is_restricted}
use Rattle.diag_lines.specs.declared.code.Code.TheVariants.{SharedIdentifier}
use Rattle.diag_lines.specs.declared.subject.Subject.TheVariants as of
use Rattle.co_diag.specs.Counts.{count_to_two, one_more, shared_among}
use Rattle.diag_nodes.specs.Found.{diagnostic}
use Rattle.co_diag.specs.Found.{shared_in}

-- none is had at first
pub none_had : (count q : ℕ) → ◌≡◌ {A = ℕ} (slice_index_or (replicate count 0) q 0) 0
none_had zero q = refl
none_had (suc count) zero = refl
none_had (suc count) (suc q) = none_had count q

more : (n : ℕ) → one_more (count_to_two n) ≡ count_to_two (n + 1)
more zero = refl
more (suc zero) = refl
more (suc (suc n)) = let on : suc (suc (suc n)) ≡ suc (suc n) + 1 = omega arith in ap count_to_two on

same : (n : ℕ) → n ≡ n + 0
same n = omega arith

-- one more identifier
pub counted : (before after : ℕ → ℕ) (xs ys : List ℕ) (id : ℕ) → ys ≡ xs ++ id ∷ []
    → ((q : ℕ) → before q ≡ count_to_two (length (filter (λ n. n == q) xs)))
    → ((q : ℕ) → after q ≡ (if id == q then one_more (before q) else before q)) → (q : ℕ)
    → after q ≡ count_to_two (length (filter (λ n. n == q) ys))
counted before after xs ys id is was now q =
    now q ∙ ap (λ b. if id == q then one_more b else b) (was q) ∙ by (id == q)
    ∙ ap count_to_two (sym (length-append (filter (λ n. n == q) xs) (filter (λ n. n == q) (id ∷ [])))
    ∙ ap length (sym (filter-append (λ n. n == q) xs (id ∷ []))))
    ∙ ap (λ (zs : List ℕ). count_to_two (length (filter (λ n. n == q) zs))) (sym is)
  where
    by : (t : Bool) → (if t then one_more (count_to_two (length (filter (λ n. n == q) xs)))
        else count_to_two (length (filter (λ n. n == q) xs)))
        ≡ count_to_two (length (filter (λ n. n == q) xs) + length (cond t (id ∷ []) []))
    by true = more (length (filter (λ n. n == q) xs))
    by false = ap count_to_two (same (length (filter (λ n. n == q) xs)))

-- 2 or more
two : (n : ℕ) → nat_le 2 (count_to_two n) ≡ nat_le 2 n
two zero = refl
two (suc zero) = refl
two (suc (suc n)) = sym (le-leb 2 (suc (suc n)) (omega arith))

pub shared_by_counts : (had ids : List ℕ)
    → ((q : ℕ) → slice_index_or had q 0 ≡ count_to_two (length (filter (λ n. n == q) ids)))
    → filter_map (shared_among had) ids ≡ filter_map (shared_in ids) ids
shared_by_counts had ids counts = λ i. filter_map (λ (id : ℕ). at id i) ids
  where
    at : (id : ℕ) → shared_among had id ≡ shared_in ids id
    at id = ap (λ t. if t && not (is_restricted id) then Some (diagnostic SharedIdentifier (of.Cob id)) else None)
        (ap (nat_le 2) (counts id) ∙ two (length (filter (λ n. n == id) ids)))
