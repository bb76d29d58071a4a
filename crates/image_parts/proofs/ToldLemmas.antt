-- What is told up to a moment.
use Rattle.std.proofs.Common.{◌≡◌, ℕ, zero, suc, ◌+◌, ◌<◌, ◌≤◌, Bool, List, [], ◌++◌, filter, refl, sym, ap, ◌∙◌, arith}
use Rattle.std.proofs.lemmas.List.{append-nil}
use Rattle.std.proofs.lemmas.List.Elements.{filter-append}
use Rattle.image_parts.specs.Asking.{Asking, outcome, turns}
use Rattle.image_parts.proofs.QuestionLemmas.{outcome_turns}
use Rattle.image_parts.proofs.BlockLemmas.{turns_add}

-- a turn up to `last` tells what is shown alone, and a later one nothing that is shown
module _ {N V S L : Type 0} (step : ℕ → S → Asking N V (S × List L)) (image : N → V) (shown : L → Bool) (last : ℕ)
    (before : (t : ℕ) (s : S) → t ≤ last → filter shown (outcome (step t s) image).1 ≡ (outcome (step t s) image).1)
    (after : (t : ℕ) (s : S) → last < t → filter shown (outcome (step t s) image).1 ≡ []) where
  told_before : (n t : ℕ) (s : S) → t + n ≤ last + 1
      → filter shown (outcome (turns step n t s) image).1 ≡ (outcome (turns step n t s) image).1
  unfolding turns
  told_before zero t s h = refl
  told_before (suc n) t s h =
      rw (
        outcome_turns step n t s image,
        filter-append,
        before t s (omega arith),
        told_before n (t + 1) (outcome (step t s) image).0 (omega arith),
      ) refl

  told_after : (n t : ℕ) (s : S) → last < t → filter shown (outcome (turns step n t s) image).1 ≡ []
  unfolding turns
  told_after zero t s h = refl
  told_after (suc n) t s h =
      rw (
        outcome_turns step n t s image,
        filter-append,
        after t s h,
        told_after n (t + 1) (outcome (step t s) image).0 (omega arith),
      ) refl

  -- turns past the last moment show nothing more
  pub told_to : (n m t : ℕ) (s : S) → t + n ≡ last + 1
      → filter shown (outcome (turns step (n + m) t s) image).1 ≡ (outcome (turns step n t s) image).1
  told_to n m t s h =
      let r = outcome (turns step n t s) image in
      ap (λ (x : S × List L). filter shown x.1) (turns_add step image n m t s)
      ∙ filter-append shown r.1 (outcome (turns step m (t + n) r.0) image).1
      ∙ ap (λ xs. xs ++ filter shown (outcome (turns step m (t + n) r.0) image).1) (told_before n t s (omega arith))
      ∙ ap (λ xs. r.1 ++ xs) (told_after m (t + n) r.0 (omega arith))
      ∙ append-nil r.1

-- turns that are the same from a number on
pub turns_alike : {N V S L : Type 0} (f g : ℕ → S → Asking N V (S × List L)) (image : N → V) (from : ℕ)
    → ((i : ℕ) (s : S) → from ≤ i → outcome (f i s) image ≡ outcome (g i s) image) → (n i : ℕ) (s : S) → from ≤ i
    → outcome (turns f n i s) image ≡ outcome (turns g n i s) image
unfolding turns
turns_alike f g image from same zero i s h = refl
turns_alike {S = S} {L = L} f g image from same (suc n) i s h =
    outcome_turns f n i s image
    ∙ ap (λ (r : S × List L). (
      (outcome (turns f n (i + 1) r.0) image).0,
      r.1 ++ (outcome (turns f n (i + 1) r.0) image).1,
    )) (same i s h)
    ∙ ap (λ (q : S × List L). (q.0, (outcome (g i s) image).1 ++ q.1))
    (turns_alike f g image from same n (i + 1) (outcome (g i s) image).0 (omega arith))
    ∙ sym (outcome_turns g n i s image)
