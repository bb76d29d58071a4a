-- The least of the identifiers of waiting frames.
use Rattle.std.proofs.Common.{◌≡◌, ℕ, zero, suc, ◌+◌, ◌<◌, ◌≤◌, List, [], ◌∷◌, length, get_or, set, below_more, arith}
use Rattle.std.proofs.Common.{ap, ◌∙◌}
use Rattle.std.specs.Prelude.{slice_index}
use Rattle.std.proofs.lemmas.List.{get_or-map, length-set}
use Rattle.can_frame.specs.declared.waiting.Waiting.{Waiting}
use Rattle.can_frame.specs.Least.{IsFirstLeast}
use Rattle.can_frame.specs.WaitingFrames.{identifiers}

-- the identifier of the frame at a place
pub identifier_at : (frames : List Waiting) (k : ℕ) (d : Waiting) → k < length frames
    → slice_index (identifiers frames) k ≡ (get_or frames k d).frame.id
identifier_at frames k d h = get_or-map (λ (w : Waiting). w.frame.id) frames k d 0 h

-- one more number that is not below the least so far
pub least_keeps : (numbers : List ℕ) (i place : ℕ) → IsFirstLeast numbers i place
    → slice_index numbers place ≤ slice_index numbers i → IsFirstLeast numbers (i + 1) place
least_keeps numbers i place h le = record {
  within = omega (arith, h.within);
  before = h.before;
  least = below_more (λ k. slice_index numbers place ≤ slice_index numbers k) i h.least le;
}

-- one more number that is below it
pub least_takes : (numbers : List ℕ) (i place : ℕ) → IsFirstLeast numbers i place
    → slice_index numbers i < slice_index numbers place → IsFirstLeast numbers (i + 1) i
least_takes numbers i place h lt = record {
  within = omega (arith, h.within);
  before = λ k less. omega (arith, h.least k less);
  least = below_more (λ k. slice_index numbers i ≤ slice_index numbers k) i (λ k less. omega (arith, h.least k less))
      (omega arith);
}

-- a frame in the place of another of its identifier
identifiers_kept : (frames : List Waiting) (k : ℕ) (w v : Waiting) → k < length frames → v ≡ get_or frames k v
    → w.frame.id ≡ v.frame.id → identifiers (set frames k w) ≡ identifiers frames
identifiers_kept [] k w v h is e = absurd (omega (arith, h))
identifiers_kept (x ∷ frames) zero w v h is e =
    ap (λ (id : ℕ). id ∷ identifiers frames) (e ∙ ap (λ (u : Waiting). u.frame.id) is)
identifiers_kept (x ∷ frames) (suc k) w v h is e =
    ap (λ (ids : List ℕ). x.frame.id ∷ ids) (identifiers_kept frames k w v (omega (arith, h)) is e)

pub least_stays : (frames : List Waiting) (k place : ℕ) (w v : Waiting) → k < length frames → v ≡ get_or frames k v
    → w.frame.id ≡ v.frame.id → IsFirstLeast (identifiers frames) (length frames) place
    → IsFirstLeast (identifiers (set frames k w)) (length (set frames k w)) place
least_stays frames k place w v h is e least = rw (identifiers_kept frames k w v h is e, length-set frames k w) least
