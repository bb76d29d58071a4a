-- The run over due moments is the run over all moments.
use Rattle.std.proofs.Common.{◌≡◌, ℕ, add-zero, zero, suc, ◌+◌, ◌<◌, ◌≤◌, Bool, true, false, List, [], ◌++◌}
use Rattle.std.proofs.Common.{refl, sym, ap, ◌∙◌, arith}
use Rattle.std.specs.Prelude.{nat_lt}
use Rattle.std.proofs.lemmas.Bool.Decides.{nat_tests}
use Rattle.image_parts.specs.Agenda.{dues, IsSameUnder}
use Rattle.image_parts.specs.Asking.{Asking, Answer, outcome, reads, bind, turns}
use Rattle.std.proofs.lemmas.List.{append-nil}
use Rattle.image_parts.proofs.QuestionLemmas.{outcome_bind, reads_bind, outcome_turns, reads_turns}

pub less : (a b : ℕ) → nat_lt a b ≡ true → a < b
less a b e = grind (arith, nat_tests)

pub not_less : (a b : ℕ) → nat_lt a b ≡ false → b ≤ a
not_less a b e = grind (arith, nat_tests)

-- `Good t s`: s is a state just before the moment t
module _ {N V S L : Type 0} (step : ℕ → S → Asking N V (S × List L)) (due : S → ℕ) (image : N → V) (end : ℕ)
    (Good : ℕ → S → Type 0)
    (ahead : (t : ℕ) (s : S) → Good t s → t ≤ due s)
    (quiet : (t : ℕ) (s : S) → Good t s → t < due s → step t s ≡ Answer (s, []))
    (after : (t : ℕ) (s : S) → Good t s → Good (t + 1) (outcome (step t s) image).0) where
  -- what each turn keeps
  pub turns_keep : (n t : ℕ) (s : S) → Good t s → Good (t + n) (outcome (turns step n t s) image).0
  unfolding turns
  turns_keep zero t s h = rw add-zero h
  turns_keep (suc n) t s h =
      let next : (t + 1) + n ≡ t + suc n = omega arith in
      rw (← next, outcome_turns) (turns_keep n (t + 1) (outcome (step t s) image).0 (after t s h))

  over : (most : ℕ) (s : S) → end ≤ due s → dues step due end most s ≡ Answer (s, [])
  unfolding dues
  over zero s h = refl
  over (suc most) s h =
      let late : nat_lt (due s) end ≡ false = grind (arith, nat_tests) in
      rw late

  goes_on : (most : ℕ) (s : S) → due s < end
      → dues step due end (suc most) s ≡ bind (step (due s) s)
      (λ r. bind (dues step due end most r.0) (λ q. Answer (q.0, r.1 ++ q.1)))
  unfolding dues
  goes_on most s h =
      let soon : nat_lt (due s) end ≡ true = grind (arith, nat_tests) in
      rw soon

  -- one turn at a due moment
  one : (most : ℕ) (s : S) → due s < end → (k : ℕ)
      → IsSameUnder image (dues step due end most (outcome (step (due s) s) image).0)
      (turns step k (due s + 1) (outcome (step (due s) s) image).0)
      → IsSameUnder image (dues step due end (suc most) s) (turns step (suc k) (due s) s)
  one most s h k same =
      let r = outcome (step (due s) s) image in
      let next = λ (x : S × List L). bind (dues step due end most x.0) (λ q. Answer (q.0, x.1 ++ q.1)) in
      record {
        outcomes =
            ap (λ (m : Asking N V (S × List L)). outcome m image) (goes_on most s h)
            ∙ outcome_bind (step (due s) s) next image
            ∙ outcome_bind (dues step due end most r.0) (λ q. Answer (q.0, r.1 ++ q.1)) image
            ∙ ap (λ (q : S × List L). (q.0, r.1 ++ q.1)) same.outcomes
            ∙ sym (outcome_turns step k (due s) s image);
        reads_same =
            ap (λ (m : Asking N V (S × List L)). reads m image) (goes_on most s h)
            ∙ reads_bind (step (due s) s) next image
            ∙ ap (λ rs. reads (step (due s) s) image ++ rs)
            (reads_bind (dues step due end most r.0) (λ q. Answer (q.0, r.1 ++ q.1)) image ∙ append-nil _
            ∙ same.reads_same)
            ∙ sym (reads_turns step k (due s) s image);
      }

  -- a turn in which nothing happens
  none : (most k t : ℕ) (s : S) → step t s ≡ Answer (s, [])
      → IsSameUnder image (dues step due end most s) (turns step k (t + 1) s)
      → IsSameUnder image (dues step due end most s) (turns step (suc k) t s)
  none most k t s e same =
      record {
        outcomes = same.outcomes ∙ sym (rw (outcome_turns step k t s image, e));
        reads_same = same.reads_same ∙ sym (rw (reads_turns step k t s image, e));
      }

  pub dues_same : (k t : ℕ) (s : S) (most : ℕ) → Good t s → t + k ≡ end → k ≤ most
      → IsSameUnder image (dues step due end most s) (turns step k t s)
  unfolding turns
  dues_same zero t s most good ends fits =
      let late : end ≤ due s = omega (arith, ahead t s good) in
      let e = over most s late in
      record {
        outcomes = ap (λ (m : Asking N V (S × List L)). outcome m image) e;
        reads_same = ap (λ (m : Asking N V (S × List L)). reads m image) e;
      }
  dues_same (suc k) t s zero good ends fits = absurd (omega arith)
  dues_same (suc k) t s (suc most) good ends fits =
      let by : (b : Bool) → nat_lt t (due s) ≡ b
      → IsSameUnder image (dues step due end (suc most) s) (turns step (suc k) t s) =
      λ b. elim b as (λ u. nat_lt t (due s) ≡ u
      → IsSameUnder image (dues step due end (suc most) s) (turns step (suc k) t s)) [
        | true ↦ (λ e.
            let before : t < due s = less t (due s) e in
            let idle = quiet t s good before in
            let still : Good (t + 1) s = rw idle at (after t s good) in
            none (suc most) k t s idle (dues_same k (t + 1) s (suc most) still (omega arith) (omega arith)))
        | false ↦ (λ e.
            let reached : due s ≤ t = not_less t (due s) e in
            let now : t ≡ due s = omega (arith, ahead t s good, reached) in
            rw now (one most s (omega arith) k (dues_same k (due s + 1) _ most (after (due s) s (rw (← now) good))
            (omega arith) (omega arith))))
      ] in
      by (nat_lt t (due s)) refl
