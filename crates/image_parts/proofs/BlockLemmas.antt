-- Turns in blocks.
use Rattle.std.proofs.Common.{◌≡◌, ℕ, zero, suc, ◌+◌, ◌*◌, List, [], ◌++◌, refl, sym, ap, ◌∙◌, append_assoc}
use Rattle.std.proofs.Common.{add-zero, zero-add, arith}
use Rattle.image_parts.specs.Asking.{Asking, then_run, outcome, turns}
use Rattle.image_parts.proofs.QuestionLemmas.{outcome_turns}

module _ {N V S L : Type 0} (step : ℕ → S → Asking N V (S × List L)) (image : N → V) where
  run : ℕ → ℕ → S → S × List L
  run n t s = outcome (turns step n t s) image

  run_zero : (t : ℕ) (s : S) → run 0 t s ≡ (s, [])
  unfolding run turns
  run_zero t s = refl

  run_suc : (n t : ℕ) (s : S) → run (suc n) t s ≡ then_run (outcome (step t s) image) (λ x. run n (t + 1) x)
  unfolding run
  run_suc n t s = outcome_turns step n t s image

  run_add : (a b t : ℕ) (s : S) → run (a + b) t s ≡ then_run (run a t s) (λ x. run b (t + a) x)
  run_add zero b t s = rw (zero-add, add-zero, run_zero)
  run_add (suc a) b t s =
      let more : suc a + b ≡ suc (a + b) = omega arith in
      let next : (t + 1) + a ≡ t + suc a = omega arith in
      let r : S × List L = outcome (step t s) image in
      let q : S × List L = run a (t + 1) r.0 in
      ap (λ n. run n t s) more
      ∙ run_suc (a + b) t s
      ∙ ap (λ (x : S × List L). (x.0, r.1 ++ x.1)) (run_add a b (t + 1) r.0)
      ∙ ap (λ (x : S × List L). (x.0, r.1 ++ (q.1 ++ x.1))) (ap (λ n. run b n q.0) next)
      ∙ ap (λ (ls : List L). ((run b (t + suc a) q.0).0, ls)) (sym (append_assoc r.1 q.1 (run b (t + suc a) q.0).1))
      ∙ ap (λ (x : S × List L). then_run x (λ y. run b (t + suc a) y)) (sym (run_suc a t s))

  pub turns_add : (a b t : ℕ) (s : S) → outcome (turns step (a + b) t s) image
      ≡ then_run (outcome (turns step a t s) image) (λ x. outcome (turns step b (t + a) x) image)
  unfolding run
  turns_add a b t s = run_add a b t s

-- blocks of w turns each, from the block number n on
module _ {N V S L : Type 0} (step : ℕ → S → Asking N V (S × List L)) (w : ℕ) (image : N → V) where
  unfoldable pub block : ℕ → S → Asking N V (S × List L)
  block i s = turns step w (i * w) s

  pub blocks_outcome : (count i : ℕ) (s : S)
      → outcome (turns block count i s) image ≡ outcome (turns step (count * w) (i * w) s) image
  unfolding block turns
  blocks_outcome zero i s =
      let none : 0 ≡ 0 * w = omega arith in
      ap (λ n. outcome (turns step n (i * w) s) image) none
  blocks_outcome (suc count) i s =
      let r : S × List L = outcome (turns step w (i * w) s) image in
      let next : (i + 1) * w ≡ i * w + w = omega arith in
      let more : w + count * w ≡ suc count * w = omega arith in
      outcome_turns block count i s image
      ∙ ap (λ (x : S × List L). (x.0, r.1 ++ x.1)) (blocks_outcome count (i + 1) r.0)
      ∙ ap (λ (x : S × List L). (x.0, r.1 ++ x.1)) (ap (λ t. outcome (turns step (count * w) t r.0) image) next)
      ∙ sym (turns_add step image w (count * w) (i * w) s)
      ∙ ap (λ n. outcome (turns step n (i * w) s) image) more
