-- Spans, one after another, are the run.
use Rattle.std.proofs.Common.{◌≡◌, ℕ, zero, suc, ◌+◌, ◌*◌, List, [], ◌++◌, refl, sym, ap, ◌∙◌, append_assoc, add-zero}
use Rattle.std.proofs.Common.{zero-add, arith}
use Rattle.image_parts.specs.Agenda.{IsSameUnder}
use Rattle.image_parts.specs.Asking.{Asking, bind, then_run, outcome, reads, turns}
use Rattle.image_parts.proofs.BlockLemmas.{turns_add}
use Rattle.image_parts.proofs.QuestionLemmas.{outcome_bind, outcome_turns, reads_bind, reads_turns}
use Rattle.image_parts.specs.Contents.{Content, Image}
use Rattle.image_parts.specs.declared.part.Part.{Part}
use Rattle.can_bus.specs.Bus.{Bus, instant, power_on}
use Rattle.can_bus.specs.Runs.{run}
use Rattle.can_bus.specs.declared.line.Line.{Line}
use Rattle.can_bus.specs.Spans.{bus_at, span}

-- ---- turns and then further turns read what the ones and then the others read

module _ {N V S L : Type 0} (step : ℕ → S → Asking N V (S × List L)) (image : N → V) where
  after : ℕ → ℕ → S → S
  after n t s = (outcome (turns step n t s) image).0

  all_read : ℕ → ℕ → S → List (N × V)
  all_read n t s = reads (turns step n t s) image

  read_zero : (t : ℕ) (s : S) → all_read 0 t s ≡ []
  unfolding all_read turns
  read_zero t s = refl

  after_zero : (t : ℕ) (s : S) → after 0 t s ≡ s
  unfolding after turns
  after_zero t s = refl

  read_suc : (n t : ℕ) (s : S) → all_read (suc n) t s ≡ reads (step t s) image ++ all_read n (t + 1)
      (outcome (step t s) image).0
  unfolding all_read
  read_suc n t s = reads_turns step n t s image

  after_suc : (n t : ℕ) (s : S) → after (suc n) t s ≡ after n (t + 1) (outcome (step t s) image).0
  unfolding after
  after_suc n t s = ap (λ (r : S × List L). r.0) (outcome_turns step n t s image)

  read_add : (a b t : ℕ) (s : S) → all_read (a + b) t s ≡ all_read a t s ++ all_read b (t + a) (after a t s)
  read_add zero b t s = rw (zero-add, add-zero, read_zero, after_zero) refl
  read_add (suc a) b t s =
      let more : suc a + b ≡ suc (a + b) = omega arith in
      let next : (t + 1) + a ≡ t + suc a = omega arith in
      let s1 : S = (outcome (step t s) image).0 in
      ap (λ n. all_read n t s) more
      ∙ read_suc (a + b) t s
      ∙ ap (λ (rs : List (N × V)). reads (step t s) image ++ rs) (read_add a b (t + 1) s1)
      ∙ ap (λ n. reads (step t s) image ++ (all_read a (t + 1) s1 ++ all_read b n (after a (t + 1) s1))) next
      ∙ sym (append_assoc (reads (step t s) image) (all_read a (t + 1) s1)
      (all_read b (t + suc a) (after a (t + 1) s1)))
      ∙ ap (λ (rs : List (N × V)). rs ++ all_read b (t + suc a) (after a (t + 1) s1)) (sym (read_suc a t s))
      ∙ ap (λ (x : S). all_read (suc a) t s ++ all_read b (t + suc a) x) (sym (after_suc a t s))

  pub reads_add : (a b t : ℕ) (s : S) → reads (turns step (a + b) t s) image
      ≡ reads (turns step a t s) image ++ reads (turns step b (t + a) (outcome (turns step a t s) image).0) image
  unfolding all_read after
  reads_add a b t s = read_add a b t s

-- ---- spans

module _ (image : Image) where
  abbrev Same : Asking Part Content (Bus × List Line) → Asking Part Content (Bus × List Line) → Type 0
  Same m n = IsSameUnder image m n

  none_same : (i : ℕ) (s : Bus) → Same (turns span 0 (suc i) s) (turns instant (0 * 10000) (10000 * suc i) s)
  unfolding turns
  none_same i s = record { outcomes = refl; reads_same = refl }

  later_span : (i : ℕ) (s : Bus) → span (suc i) s ≡ turns instant 10000 (10000 * suc i) s
  unfolding span
  later_span i s = refl

  first_span : (s : Bus) → span 0 s ≡ bind power_on (turns instant 10000 0)
  unfolding span
  first_span s = refl

  one_more : (n i : ℕ) (s : Bus) → ((x : Bus)
      → Same (turns span n (suc (suc i)) x) (turns instant (n * 10000) (10000 * suc (suc i)) x))
      → Same (turns span (suc n) (suc i) s) (turns instant (suc n * 10000) (10000 * suc i) s)
  one_more n i s rest =
      let r : Bus × List Line = outcome (turns instant 10000 (10000 * suc i) s) image in
      let number : suc i + 1 ≡ suc (suc i) = omega arith in
      let next : 10000 * suc (suc i) ≡ 10000 * suc i + 10000 = omega arith in
      let more : 10000 + n * 10000 ≡ suc n * 10000 = omega arith in
      record {
        outcomes =
            outcome_turns span n (suc i) s image
            ∙ ap (λ (m : Asking Part Content (Bus × List Line)). then_run (outcome m image)
            (λ (x : Bus). outcome (turns span n (suc i + 1) x) image)) (later_span i s)
            ∙ ap (λ k. then_run r (λ (x : Bus). outcome (turns span n k x) image)) number
            ∙ ap (λ (q : Bus × List Line). (q.0, r.1 ++ q.1)) (rest r.0).outcomes
            ∙ ap (λ t. then_run r (λ (x : Bus). outcome (turns instant (n * 10000) t x) image)) next
            ∙ sym (turns_add instant image 10000 (n * 10000) (10000 * suc i) s)
            ∙ ap (λ k. outcome (turns instant k (10000 * suc i) s) image) more;
        reads_same =
            reads_turns span n (suc i) s image
            ∙ ap (λ (m : Asking Part Content (Bus × List Line)). reads m image
            ++ reads (turns span n (suc i + 1) (outcome m image).0) image) (later_span i s)
            ∙ ap (λ k. reads (turns instant 10000 (10000 * suc i) s) image ++ reads (turns span n k r.0) image) number
            ∙ ap (λ (rs : List (Part × Content)). reads (turns instant 10000 (10000 * suc i) s) image ++ rs)
            (rest r.0).reads_same
            ∙ ap (λ t. reads (turns instant 10000 (10000 * suc i) s) image
            ++ reads (turns instant (n * 10000) t r.0) image) next
            ∙ sym (reads_add instant image 10000 (n * 10000) (10000 * suc i) s)
            ∙ ap (λ k. reads (turns instant k (10000 * suc i) s) image) more;
      }

  later_spans : (n i : ℕ) (s : Bus) → Same (turns span n (suc i) s) (turns instant (n * 10000) (10000 * suc i) s)
  later_spans zero i s = none_same i s
  later_spans (suc n) i s = one_more n i s (λ x. later_spans n (suc i) x)

  -- from the power-on on
  module _ (n : ℕ) (s : Bus) where
    abbrev on : Bus
    on = outcome power_on image

    abbrev first : Bus × List Line
    first = outcome (turns instant 10000 0 on) image

    all : 10000 + n * 10000 ≡ 10000 * suc n
    all = omega arith

    first_outcome : outcome (span 0 s) image ≡ first
    first_outcome = ap (λ (m : Asking Part Content (Bus × List Line)). outcome m image) (first_span s)
        ∙ outcome_bind power_on (turns instant 10000 0) image

    first_reads : reads (span 0 s) image ≡ reads power_on image ++ reads (turns instant 10000 0 on) image
    first_reads = ap (λ (m : Asking Part Content (Bus × List Line)). reads m image) (first_span s)
        ∙ reads_bind power_on (turns instant 10000 0) image

    run_outcome : outcome (run (10000 * suc n)) image
        ≡ then_run first (λ (x : Bus). outcome (turns instant (n * 10000) 10000 x) image)
    unfolding run
    run_outcome =
        outcome_bind power_on (turns instant (10000 * suc n) 0) image
        ∙ ap (λ k. outcome (turns instant k 0 on) image) (sym all)
        ∙ turns_add instant image 10000 (n * 10000) 0 on

    run_reads : reads (run (10000 * suc n)) image
        ≡ reads power_on image ++ (reads (turns instant 10000 0 on) image
        ++ reads (turns instant (n * 10000) 10000 first.0) image)
    unfolding run
    run_reads =
        reads_bind power_on (turns instant (10000 * suc n) 0) image
        ∙ ap (λ k. reads power_on image ++ reads (turns instant k 0 on) image) (sym all)
        ∙ ap (λ (rs : List (Part × Content)). reads power_on image ++ rs)
        (reads_add instant image 10000 (n * 10000) 0 on)

    pub spans_are_the_run : IsSameUnder image (turns span (suc n) 0 s) (run (10000 * suc n))
    spans_are_the_run =
        let rest = later_spans n 0 first.0 in
        record {
          outcomes =
              outcome_turns span n 0 s image
              ∙ ap (λ (q : Bus × List Line). then_run q (λ (x : Bus). outcome (turns span n 1 x) image)) first_outcome
              ∙ ap (λ (q : Bus × List Line). (q.0, first.1 ++ q.1)) rest.outcomes
              ∙ sym run_outcome;
          reads_same =
              reads_turns span n 0 s image
              ∙ ap (λ (rs : List (Part × Content)). rs
              ++ reads (turns span n 1 (outcome (span 0 s) image).0) image) first_reads
              ∙ ap (λ (q : Bus × List Line). (reads power_on image ++ reads (turns instant 10000 0 on) image)
              ++ reads (turns span n 1 q.0) image) first_outcome
              ∙ ap (λ (rs : List (Part × Content)). (reads power_on image ++ reads (turns instant 10000 0 on) image)
              ++ rs) rest.reads_same
              ∙ append_assoc (reads power_on image) (reads (turns instant 10000 0 on) image)
              (reads (turns instant (n * 10000) 10000 first.0) image)
              ∙ sym run_reads;
        }

-- ---- the moments of a run

pub bus_first : (image : Image) → bus_at image 0 ≡ outcome power_on image
unfolding bus_at run turns
bus_first image = ap (λ (r : Bus × List Line). r.0) (outcome_bind power_on (turns instant 0 0) image)

none_more : (image : Image) (t : ℕ) (s : Bus)
    → outcome (turns instant 1 t s) image ≡ then_run (outcome (instant t s) image) (λ (x : Bus). (x, []))
unfolding turns
none_more image t s = outcome_turns instant 0 t s image

pub bus_next : (image : Image) (t : ℕ) → bus_at image (t + 1) ≡ (outcome (instant t (bus_at image t)) image).0
unfolding bus_at run
bus_next image t =
    let s = outcome power_on image in
    let so_far : (outcome (turns instant t 0 s) image).0 ≡ (outcome (run t) image).0 = ap (λ (r : Bus × List Line). r.0)
    (sym (outcome_bind power_on (turns instant t 0) image)) in
    ap (λ (r : Bus × List Line). r.0) (outcome_bind power_on (turns instant (t + 1) 0) image)
    ∙ ap (λ (r : Bus × List Line). r.0) (turns_add instant image t 1 0 s)
    ∙ ap (λ u. (outcome (turns instant 1 u (outcome (turns instant t 0 s) image).0) image).0) (zero-add t)
    ∙ ap (λ (r : Bus × List Line). r.0) (none_more image t (outcome (turns instant t 0 s) image).0)
    ∙ ap (λ (x : Bus). (outcome (instant t x) image).0) so_far

-- what holds at the power-on and is kept by each instant holds at each moment
pub at_each_moment : (image : Image) (P : ℕ → Bus → Type 0) → P 0 (outcome power_on image)
    → ((t : ℕ) (s : Bus) → P t s → P (t + 1) (outcome (instant t s) image).0) → (t : ℕ) → P t (bus_at image t)
at_each_moment image P first next zero = rw (bus_first image) first
at_each_moment image P first next (suc t) =
    let more : suc t ≡ t + 1 = omega arith in
    rw (more, bus_next image t) (next t (bus_at image t) (at_each_moment image P first next t))
