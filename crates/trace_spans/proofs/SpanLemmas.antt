-- A span from due moment to due moment.
use Rattle.std.proofs.Common.{◌≡◌, ℕ, zero, suc, ◌+◌, ◌*◌, ◌-◌, ◌<◌, ◌≤◌, [], ◌++◌, refl, ap, ◌∙◌, arith}
use Rattle.std.proofs.lemmas.List.{append-nil}
use Rattle.image_parts.specs.Asking.{Answer, Seen, outcome, reads, after_reads, turns}
use Rattle.image_parts.proofs.DueLemmas.{turns_keep}
use Rattle.image_parts.proofs.QuestionLemmas.{outcome_bind, reads_bind, followed_bind}
use Rattle.image_parts.proofs.LoopLemmas.{jumped, jumped_seen}
use Rattle.image_parts.specs.Contents.{Content, Image}
use Rattle.image_parts.specs.Images.{IsImage}
use Rattle.image_parts.specs.declared.part.Part.{Part}
use Rattle.can_bus.specs.Bus.{Bus, instant, power_on}
use Rattle.can_bus.specs.Dues.{IsJustBefore, next_due}
use Rattle.can_bus.proofs.DueLemmas.{from_due, parts_from}
use Rattle.can_bus.proofs.DueRunLemmas.{before_first, before_next, due_ahead}
use Rattle.can_bus.proofs.QuietLemmas.{quiet}
use Rattle.can_bus.specs.Spans.{span}
use Rattle.trace_spans.specs.Spans.{IsReady}

idle : (t : ℕ) (s : Bus) → IsJustBefore t s → (u : ℕ) → t ≤ u → u < next_due s → instant u s ≡ Answer (s, [])
idle t s h u from to =
    let soon : t < next_due s = omega (arith, from, to) in
    quiet u s (h.rests soon) to

-- just before each moment up to its next due moment
pub at_moment : (t u : ℕ) (s : Bus) → IsJustBefore t s → t ≤ u → u ≤ next_due s → IsJustBefore u s
at_moment t u s h from to =
    let due = from_due u s to in
    let parts = parts_from u s due.1 in
    record {
      bit_time = h.bit_time;
      in_time = record {
        window = record {
          multiple = h.in_time.window.multiple;
          from = due.0;
          first = omega (arith, h.in_time.window.first, from);
        };
        order = h.in_time.order;
        from = parts.steps;
      };
      from = due.1;
      rests = λ soon. h.rests (omega (arith, soon, from));
    }

-- no turn is left
module _ (t end : ℕ) (s : Bus) (over : end ≤ t) where
  none_left : end - t ≡ 0
  none_left = omega arith

  pub ended : (image : Image) → outcome (turns instant (end - t) t s) image ≡ (s, [])
  unfolding turns
  ended image = ap (λ n. outcome (turns instant n t s) image) none_left

  pub ended_seen : (seen : Seen Part Content) → after_reads (turns instant (end - t) t s) seen ≡ seen
  unfolding turns
  ended_seen seen = ap (λ n. after_reads (turns instant n t s) seen) none_left ∙ rw append-nil

-- what is left at t is what is left at the next due moment
module _ (t next end : ℕ) (s : Bus) (h : IsJustBefore t s) (from : t ≤ next) (to : next ≤ end) (due : next ≤ next_due s)
  where
    still : (u : ℕ) → t ≤ u → u < next → instant u s ≡ Answer (s, [])
    still u a b = idle t s h u a (omega (arith, b, due))

    pub skipped : (image : Image) → outcome (turns instant (end - t) t s) image
        ≡ outcome (turns instant (end - next) next s) image
    skipped = jumped instant s t next end from to still

    pub skipped_seen : (seen : Seen Part Content) → after_reads (turns instant (end - t) t s) seen
        ≡ after_reads (turns instant (end - next) next s) seen
    skipped_seen = jumped_seen instant s t next end from to still

    pub skipped_reads : (image : Image) → reads (turns instant (end - t) t s) image
        ≡ reads (turns instant (end - next) next s) image
    skipped_reads image = ap (λ (x : Seen Part Content). x.asked) (skipped_seen (record { image = image; asked = [] }))

pub ended_reads : (t end : ℕ) (s : Bus) → end ≤ t → (image : Image) → reads (turns instant (end - t) t s) image ≡ []
ended_reads t end s over image = ap (λ (x : Seen Part Content). x.asked)
    (ended_seen t end s over (record { image = image; asked = [] }))

-- the first span
module _ (s : Bus) where
  pub first_span : (image : Image)
      → outcome (span 0 s) image ≡ outcome (turns instant (10000 - 0) 0 (outcome power_on image)) image
  unfolding span
  first_span image = outcome_bind power_on (turns instant 10000 0) image

  pub first_seen : (seen : Seen Part Content) → after_reads (span 0 s) seen
      ≡ after_reads (turns instant (10000 - 0) 0 (outcome power_on seen.image)) (after_reads power_on seen)
  unfolding span
  first_seen seen = followed_bind power_on (turns instant 10000 0) seen

  pub first_reads : (image : Image) → reads (span 0 s) image
      ≡ reads power_on image ++ reads (turns instant (10000 - 0) 0 (outcome power_on image)) image
  unfolding span
  first_reads image = reads_bind power_on (turns instant 10000 0) image

-- a later one
pub later_span : (i : ℕ) (s : Bus) → 0 < i
    → span i s ≡ turns instant ((10000 * i + 10000) - 10000 * i) (10000 * i) s
unfolding span
later_span zero s h = absurd (omega (arith, h))
later_span (suc i) s h =
    let all : (10000 * suc i + 10000) - 10000 * suc i ≡ 10000 = omega arith in
    rw all refl

-- a span ends ready for the next
pub span_ready : (image : Image) → IsImage image → (i : ℕ) (s : Bus) → IsReady i s
    → IsJustBefore (10000 * (i + 1)) (outcome (span i s) image).0
span_ready image fits zero s ready =
    rw first_span (turns_keep instant next_due image 0 IsJustBefore due_ahead (λ t s h soon. quiet t s (h.rests soon) soon)
    (before_next image fits) (10000 - 0) 0 (outcome power_on image) (before_first image fits))
span_ready image fits (suc k) s ready =
    let i = suc k in
    let first : 0 < i = omega arith in
    let all : (10000 * i + 10000) - 10000 * i ≡ 10000 = omega arith in
    let end : 10000 * i + 10000 ≡ 10000 * (i + 1) = omega arith in
    rw (later_span i s first, all, ← end)
    (turns_keep instant next_due image 0 IsJustBefore due_ahead (λ t s h soon. quiet t s (h.rests soon) soon)
    (before_next image fits) 10000 (10000 * i) s (ready first))
