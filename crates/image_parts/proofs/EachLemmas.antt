-- Each of a list in turn, and the loop that does so in place.
use Rattle.std.proofs.Common.{◌≡◌, ℕ, ◌+◌, ◌<◌, ◌≤◌, List, [], ◌∷◌, ◌++◌, sym, ap, ◌∙◌, length, get_or, take, drop}
use Rattle.std.proofs.Common.{append_assoc, add-one, arith, length-append}
use Rattle.std.proofs.Math.ListN.{set}
use Rattle.std.proofs.Math.Seq.{drop-cons}
use Rattle.std.proofs.lemmas.List.{append-nil, drop-set-lt, take_more_set}
use Rattle.image_parts.specs.Asking.{Asking, Answer, Seen, outcome, reads, after_reads, bind}
use Rattle.image_parts.proofs.QuestionLemmas.{outcome_bind, reads_bind}
use Rattle.image_parts.specs.Each.{each}

-- one more of the list
module _ {N V A B : Type 0} (step : A → Asking N V B) (a : A) (rest : List A) where
  then_rest : B → Asking N V (List B)
  then_rest b = bind (each step rest) (λ bs. Answer (b ∷ bs))

  pub outcome_each : (image : N → V) → outcome (each step (a ∷ rest)) image
      ≡ outcome (step a) image ∷ outcome (each step rest) image
  outcome_each image =
      outcome_bind (step a) (λ b. bind (each step rest) (λ bs. Answer (b ∷ bs))) image
      ∙ outcome_bind (each step rest) (λ bs. Answer (outcome (step a) image ∷ bs)) image

  pub reads_each : (image : N → V) → reads (each step (a ∷ rest)) image
      ≡ reads (step a) image ++ reads (each step rest) image
  reads_each image =
      reads_bind (step a) (λ b. bind (each step rest) (λ bs. Answer (b ∷ bs))) image
      ∙ ap (λ rs. reads (step a) image ++ rs)
      (reads_bind (each step rest) (λ bs. Answer (outcome (step a) image ∷ bs)) image ∙ append-nil _)

  pub followed_each : (seen : Seen N V) → after_reads (each step (a ∷ rest)) seen ≡ after_reads (each step rest)
      (after_reads (step a) seen)
  followed_each seen = rw (reads_each seen.image, ← append_assoc)

-- t is written at i, where the element get_or ss i d stood
module _ {N V S : Type 0} (step : S → Asking N V S) (ss : List S) (i : ℕ) (d t : S) (within : i < length ss) where
  rest_is : drop i ss ≡ get_or ss i d ∷ drop (i + 1) (set ss i t)
  rest_is =
      let past : i < i + 1 = omega arith in
      drop-cons ss i d within ∙ (rw (← add-one) (ap (λ xs. get_or ss i d ∷ xs) (sym (drop-set-lt (i + 1) ss i t past))))

  pub each_state : (image : N → V) → t ≡ outcome (step (get_or ss i d)) image
      → take (i + 1) (set ss i t) ++ outcome (each step (drop (i + 1) (set ss i t))) image
      ≡ take i ss ++ outcome (each step (drop i ss)) image
  each_state image e =
      rw (take_more_set ss i t within) (
      rw rest_is (
      rw outcome_each (rw (← e) (append_assoc (take i ss) (t ∷ []) _))))

  pub each_noted : (seen seen' : Seen N V) → seen' ≡ after_reads (step (get_or ss i d)) seen
      → after_reads (each step (drop (i + 1) (set ss i t))) seen' ≡ after_reads (each step (drop i ss)) seen
  each_noted seen seen' e =
      ap (after_reads (each step (drop (i + 1) (set ss i t)))) e
      ∙ sym (followed_each step (get_or ss i d) (drop (i + 1) (set ss i t)) seen)
      ∙ ap (λ xs. after_reads (each step xs) seen) (sym rest_is)

  -- the number of calls rises by at most the number of readings
  pub each_counted : (image : N → V) (asks asks' : ℕ) → asks' ≤ asks + length (reads (step (get_or ss i d)) image)
      → asks' + length (reads (each step (drop (i + 1) (set ss i t))) image)
      ≤ asks + length (reads (each step (drop i ss)) image)
  each_counted image asks asks' e =
      let all : reads (each step (drop i ss)) image
      ≡ reads (step (get_or ss i d)) image ++ reads (each step (drop (i + 1) (set ss i t))) image =
      ap (λ xs. reads (each step xs) image) rest_is ∙ reads_each step (get_or ss i d) (drop (i + 1) (set ss i t)) image
      in
      rw (all, length-append) (omega arith)
