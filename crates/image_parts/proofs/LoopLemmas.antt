-- A loop that visits each element of a slice and writes it back.
use Rattle.std.proofs.Common.{◌≡◌, ℕ, zero, suc, ◌+◌, ◌-◌, ◌<◌, ◌≤◌, List, [], ◌∷◌, ◌++◌, sym, ap, ◌∙◌, length, get_or}
use Rattle.std.proofs.Common.{take, drop, append_assoc, add-one, add-zero, zero-add, arith, length-append}
use Rattle.std.proofs.Math.ListN.{set}
use Rattle.std.proofs.Math.Seq.{drop-cons}
use Rattle.std.proofs.lemmas.List.{append-nil, drop-set-lt, take_more_set}
use Rattle.image_parts.specs.Asking.{Asking, Answer, Seen, outcome, reads, after_reads, visit, turns}
use Rattle.image_parts.proofs.QuestionLemmas.{outcome_visit, followed_visit, reads_visit, outcome_turns, followed_turns}
use Rattle.image_parts.proofs.QuestionLemmas.{reads_turns}

-- t is written at i, where the element get_or ss i d stood
module _ {N V S L : Type 0} (step : S → Asking N V (S × List L)) (ss : List S) (i : ℕ) (d t : S) (image : N → V)
    (within : i < length ss) where
  rest_is : drop i ss ≡ get_or ss i d ∷ drop (i + 1) (set ss i t)
  rest_is =
      let past : i < i + 1 = omega arith in
      drop-cons ss i d within ∙ (rw (← add-one) (ap (λ xs. get_or ss i d ∷ xs) (sym (drop-set-lt (i + 1) ss i t past))))

  pub visited_state : t ≡ (outcome (step (get_or ss i d)) image).0
      → take (i + 1) (set ss i t) ++ (outcome (visit step (drop (i + 1) (set ss i t))) image).0
      ≡ take i ss ++ (outcome (visit step (drop i ss)) image).0
  visited_state e =
      rw (take_more_set ss i t within) (
      rw rest_is (
      rw outcome_visit (rw (← e) (append_assoc (take i ss) (t ∷ []) _))))

  pub visited_told : (told told' : List L) → told' ≡ told ++ (outcome (step (get_or ss i d)) image).1
      → told' ++ (outcome (visit step (drop (i + 1) (set ss i t))) image).1
      ≡ told ++ (outcome (visit step (drop i ss)) image).1
  visited_told told told' e = rw (rest_is, outcome_visit, e) (append_assoc told _ _)

  pub visited_noted : (seen seen' : Seen N V) → seen' ≡ after_reads (step (get_or ss i d)) seen
      → after_reads (visit step (drop (i + 1) (set ss i t))) seen' ≡ after_reads (visit step (drop i ss)) seen
  visited_noted seen seen' e =
      ap (after_reads (visit step (drop (i + 1) (set ss i t)))) e
      ∙ sym (followed_visit step (get_or ss i d) (drop (i + 1) (set ss i t)) seen)
      ∙ ap (λ xs. after_reads (visit step xs) seen) (sym rest_is)

-- the number of calls rises by at most the number of readings
pub visited_counted : {N V S L : Type 0} (step : S → Asking N V (S × List L)) (ss : List S) (i : ℕ) (d t : S)
    (image : N → V) → i < length ss → (asks asks' : ℕ) → asks' ≤ asks + length (reads (step (get_or ss i d)) image)
    → asks' + length (reads (visit step (drop (i + 1) (set ss i t))) image)
    ≤ asks + length (reads (visit step (drop i ss)) image)
visited_counted step ss i d t image within asks asks' e =
    let rest = rest_is step ss i d t image within in
    let all : reads (visit step (drop i ss)) image
    ≡ reads (step (get_or ss i d)) image ++ reads (visit step (drop (i + 1) (set ss i t))) image =
    ap (λ xs. reads (visit step xs) image) rest ∙ reads_visit step (get_or ss i d) (drop (i + 1) (set ss i t)) image in
    rw (all, length-append) (omega arith)

-- one turn at t, of those up to end
module _ {N V S L : Type 0} (step : ℕ → S → Asking N V (S × List L)) (t end : ℕ) (s s' : S) (image : N → V)
    (within : t < end) where
  one_left : end - t ≡ suc (end - (t + 1))
  one_left = omega arith

  pub turned_state : s' ≡ (outcome (step t s) image).0
      → (outcome (turns step (end - (t + 1)) (t + 1) s') image).0 ≡ (outcome (turns step (end - t) t s) image).0
  turned_state e = rw (one_left, outcome_turns, ← e)

  pub turned_told : s' ≡ (outcome (step t s) image).0 → (told told' : List L)
      → told' ≡ told ++ (outcome (step t s) image).1
      → told' ++ (outcome (turns step (end - (t + 1)) (t + 1) s') image).1
      ≡ told ++ (outcome (turns step (end - t) t s) image).1
  turned_told e told told' h = rw (one_left, outcome_turns, ← e, h) (append_assoc told _ _)

pub turned_noted : {N V S L : Type 0} (step : ℕ → S → Asking N V (S × List L)) (t end : ℕ) (s s' : S)
    (seen seen' : Seen N V) → t < end → s' ≡ (outcome (step t s) seen.image).0 → seen' ≡ after_reads (step t s) seen
    → after_reads (turns step (end - (t + 1)) (t + 1) s') seen' ≡ after_reads (turns step (end - t) t s) seen
turned_noted step t end s s' seen seen' within e h =
    let left : end - t ≡ suc (end - (t + 1)) = omega arith in
    ap (after_reads (turns step (end - (t + 1)) (t + 1) s')) h
    ∙ ap (λ x. after_reads (turns step (end - (t + 1)) (t + 1) x) (after_reads (step t s) seen)) e
    ∙ sym (followed_turns step (end - (t + 1)) t s seen)
    ∙ ap (λ n. after_reads (turns step n t s) seen) (sym left)

pub turned_counted : {N V S L : Type 0} (step : ℕ → S → Asking N V (S × List L)) (t end : ℕ) (s s' : S) (image : N → V)
    → t < end → s' ≡ (outcome (step t s) image).0 → (asks asks' : ℕ) → asks' ≤ asks + length (reads (step t s) image)
    → asks' + length (reads (turns step (end - (t + 1)) (t + 1) s') image)
    ≤ asks + length (reads (turns step (end - t) t s) image)
turned_counted step t end s s' image within e asks asks' h =
    let left : end - t ≡ suc (end - (t + 1)) = omega arith in
    let all : reads (turns step (end - t) t s) image
    ≡ reads (step t s) image ++ reads (turns step (end - (t + 1)) (t + 1) s') image =
    ap (λ n. reads (turns step n t s) image) left ∙ reads_turns step (end - (t + 1)) t s image
    ∙ ap (λ x. reads (step t s) image ++ reads (turns step (end - (t + 1)) (t + 1) x) image) (sym e) in
    rw (all, length-append) (omega arith)

-- turns in which nothing happens may be left out
module _ {N V S L : Type 0} (step : ℕ → S → Asking N V (S × List L)) (s : S) where
  jump_one : (n t : ℕ) (image : N → V) → step t s ≡ Answer (s, [])
      → outcome (turns step (suc n) t s) image ≡ outcome (turns step n (t + 1) s) image
  jump_one n t image e = rw (outcome_turns, e)

  jump_seen : (n t : ℕ) (seen : Seen N V) → step t s ≡ Answer (s, [])
      → after_reads (turns step (suc n) t s) seen ≡ after_reads (turns step n (t + 1) s) seen
  jump_seen n t seen e =
      followed_turns step n t s seen
      ∙ ap (λ (m : Asking N V (S × List L)). after_reads (turns step n (t + 1) (outcome m seen.image).0)
      (after_reads m seen)) e
      ∙ rw append-nil

  jumps : (k n t : ℕ) (image : N → V) → ((u : ℕ) → t ≤ u → u < t + k → step u s ≡ Answer (s, []))
      → outcome (turns step (k + n) t s) image ≡ outcome (turns step n (t + k) s) image
  jumps zero n t image h = rw (add-zero, zero-add)
  jumps (suc k) n t image h =
      let more : suc k + n ≡ suc (k + n) = omega arith in
      let next : (t + 1) + k ≡ t + suc k = omega arith in
      ap (λ c. outcome (turns step c t s) image) more
      ∙ jump_one (k + n) t image (h t (omega arith) (omega arith))
      ∙ jumps k n (t + 1) image (λ u a b. h u (omega arith) (omega arith))
      ∙ ap (λ x. outcome (turns step n x s) image) next

  jumps_seen : (k n t : ℕ) (seen : Seen N V) → ((u : ℕ) → t ≤ u → u < t + k → step u s ≡ Answer (s, []))
      → after_reads (turns step (k + n) t s) seen ≡ after_reads (turns step n (t + k) s) seen
  jumps_seen zero n t seen h = ap (λ c. after_reads (turns step c t s) seen) (zero-add n)
      ∙ ap (λ x. after_reads (turns step n x s) seen) (sym (add-zero t))
  jumps_seen (suc k) n t seen h =
      let more : suc k + n ≡ suc (k + n) = omega arith in
      let next : (t + 1) + k ≡ t + suc k = omega arith in
      ap (λ c. after_reads (turns step c t s) seen) more
      ∙ jump_seen (k + n) t seen (h t (omega arith) (omega arith))
      ∙ jumps_seen k n (t + 1) seen (λ u a b. h u (omega arith) (omega arith))
      ∙ ap (λ x. after_reads (turns step n x s) seen) next

  module _ (t next end : ℕ) (from : t ≤ next) (to : next ≤ end)
      (idle : (u : ℕ) → t ≤ u → u < next → step u s ≡ Answer (s, [])) where
    split : end - t ≡ (next - t) + (end - next)
    split = omega arith

    met : t + (next - t) ≡ next
    met = omega arith

    pub jumped : (image : N → V) → outcome (turns step (end - t) t s) image
        ≡ outcome (turns step (end - next) next s) image
    jumped image =
        ap (λ c. outcome (turns step c t s) image) split
        ∙ jumps (next - t) (end - next) t image (λ u a b. idle u a (omega arith))
        ∙ ap (λ x. outcome (turns step (end - next) x s) image) met

    pub jumped_seen : (seen : Seen N V) → after_reads (turns step (end - t) t s) seen
        ≡ after_reads (turns step (end - next) next s) seen
    jumped_seen seen =
        ap (λ c. after_reads (turns step c t s) seen) split
        ∙ jumps_seen (next - t) (end - next) t seen (λ u a b. idle u a (omega arith))
        ∙ ap (λ x. after_reads (turns step (end - next) x s) seen) met
