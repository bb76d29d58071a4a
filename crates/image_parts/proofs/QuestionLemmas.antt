-- Laws of questions: one after another, and under two images.
use Rattle.std.proofs.Common.{◌≡◌, ℕ, suc, ◌+◌, List, ◌∷◌, ◌++◌, refl, ap, ◌∙◌, append_assoc}
use Rattle.std.proofs.lemmas.List.{append-nil}
use Rattle.image_parts.specs.Alike.{AreAlike}
use Rattle.image_parts.specs.Asking.{Asking, Answer, Ask, outcome, reads, bind, visit, turns, Agrees, Seen, after_reads}

pub outcome_bind : {N V A B : Type 0} (m : Asking N V A) (f : A → Asking N V B) (image : N → V)
    → outcome (bind m f) image ≡ outcome (f (outcome m image)) image
outcome_bind (Answer a) f image = refl
outcome_bind (Ask n k) f image = outcome_bind (k (image n)) f image

pub reads_bind : {N V A B : Type 0} (m : Asking N V A) (f : A → Asking N V B) (image : N → V)
    → reads (bind m f) image ≡ reads m image ++ reads (f (outcome m image)) image
reads_bind (Answer a) f image = refl
reads_bind (Ask n k) f image = ap (λ rs. (n, image n) ∷ rs) (reads_bind (k (image n)) f image)

-- under two images that agree on what is read under one, the answer and the reads are the same
pub two_images : {N V A : Type 0} (m : Asking N V A) (P Q : N → V) → Agrees Q (reads m P) → AreAlike m P Q
two_images (Answer a) P Q h = record { outcomes = refl; reads_same = refl }
two_images (Ask n k) P Q h =
    let same = two_images (k (P n)) P Q h.1 in
    record {
      outcomes = ap (λ v. outcome (k v) Q) h.0 ∙ same.outcomes;
      reads_same = ap (λ v. (n, v) ∷ reads (k v) Q) h.0 ∙ ap (λ rs. (n, P n) ∷ rs) same.reads_same;
    }

-- the image that was read agrees with what was read
pub reads_agree : {N V A : Type 0} (m : Asking N V A) (image : N → V) → Agrees image (reads m image)
reads_agree (Answer a) image = tt
reads_agree (Ask n k) image = (refl, reads_agree (k (image n)) image)

-- what is read by the one and then the other
pub followed_bind : {N V A B : Type 0} (m : Asking N V A) (f : A → Asking N V B) (s : Seen N V)
    → after_reads (bind m f) s ≡ after_reads (f (outcome m s.image)) (after_reads m s)
followed_bind m f s =
    rw (reads_bind m f s.image, ← append_assoc)

-- what is read where the last stage reads nothing
pub followed_last : {N V A B : Type 0} (m : Asking N V A) (f : A → B) (s : Seen N V)
    → after_reads (bind m (λ a. Answer (f a))) s ≡ after_reads m s
followed_last m f s = rw (reads_bind m (λ a. Answer (f a)) s.image, append-nil)

-- one more of the list
module _ {N V S L : Type 0} (step : S → Asking N V (S × List L)) (s : S) (ss : List S) (image : N → V) where
  pub outcome_visit : outcome (visit step (s ∷ ss)) image
      ≡ (
        (outcome (step s) image).0 ∷ (outcome (visit step ss) image).0,
        (outcome (step s) image).1 ++ (outcome (visit step ss) image).1,
      )
  outcome_visit =
      outcome_bind (step s) (λ r. bind (visit step ss) (λ q. Answer (r.0 ∷ q.0, r.1 ++ q.1))) image
      ∙ outcome_bind (visit step ss)
      (λ q. Answer ((outcome (step s) image).0 ∷ q.0, (outcome (step s) image).1 ++ q.1)) image

  pub reads_visit : reads (visit step (s ∷ ss)) image ≡ reads (step s) image ++ reads (visit step ss) image
  reads_visit =
      reads_bind (step s) (λ r. bind (visit step ss) (λ q. Answer (r.0 ∷ q.0, r.1 ++ q.1))) image
      ∙ ap (λ rs. reads (step s) image ++ rs)
      (reads_bind (visit step ss)
      (λ q. Answer ((outcome (step s) image).0 ∷ q.0, (outcome (step s) image).1 ++ q.1)) image ∙ append-nil _)

-- one more turn
module _ {N V S L : Type 0} (step : ℕ → S → Asking N V (S × List L)) (count t : ℕ) (s : S) (image : N → V) where
  pub outcome_turns : outcome (turns step (suc count) t s) image
      ≡ (
        (outcome (turns step count (t + 1) (outcome (step t s) image).0) image).0,
        (outcome (step t s) image).1 ++ (outcome (turns step count (t + 1) (outcome (step t s) image).0) image).1,
      )
  unfolding turns
  outcome_turns =
      outcome_bind (step t s) (λ r. bind (turns step count (t + 1) r.0) (λ q. Answer (q.0, r.1 ++ q.1))) image
      ∙ outcome_bind (turns step count (t + 1) (outcome (step t s) image).0)
      (λ q. Answer (q.0, (outcome (step t s) image).1 ++ q.1)) image

  pub reads_turns : reads (turns step (suc count) t s) image
      ≡ reads (step t s) image ++ reads (turns step count (t + 1) (outcome (step t s) image).0) image
  unfolding turns
  reads_turns =
      reads_bind (step t s) (λ r. bind (turns step count (t + 1) r.0) (λ q. Answer (q.0, r.1 ++ q.1))) image
      ∙ ap (λ rs. reads (step t s) image ++ rs)
      (reads_bind (turns step count (t + 1) (outcome (step t s) image).0)
      (λ q. Answer (q.0, (outcome (step t s) image).1 ++ q.1)) image ∙ append-nil _)

module _ {N V S L : Type 0} (step : S → Asking N V (S × List L)) (s : S) (ss : List S) (seen : Seen N V) where
  pub followed_visit : after_reads (visit step (s ∷ ss)) seen ≡ after_reads (visit step ss) (after_reads (step s) seen)
  followed_visit = rw (reads_visit step s ss seen.image, ← append_assoc)

pub followed_turns : {N V S L : Type 0} (step : ℕ → S → Asking N V (S × List L)) (count t : ℕ) (s : S) (seen : Seen N V)
    → after_reads (turns step (suc count) t s) seen
    ≡ after_reads (turns step count (t + 1) (outcome (step t s) seen.image).0) (after_reads (step t s) seen)
followed_turns step count t s seen = rw (reads_turns step count t s seen.image, ← append_assoc)

-- what follows a `bind`, for `grind` and `simp`
pub ruleset one_after_another = (outcome_bind, reads_bind)
