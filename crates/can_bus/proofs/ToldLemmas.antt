-- What is told up to a moment.
use Rattle.std.proofs.Common.{◌≡◌, ℕ, suc, ◌+◌, ◌-◌, ◌<◌, ◌≤◌, true, false, List, [], ◌∷◌, Option, Some, None, filter}
use Rattle.std.proofs.Common.{refl, sym, ap, ◌∙◌, arith}
use Rattle.std.specs.Prelude.{All, nat_le}
use Rattle.std.proofs.lemmas.Bool.Decides.{nat_tests}
use Rattle.std.proofs.lemmas.List.Elements.{All-append, All-cons, All-nil}
use Rattle.image_parts.specs.Asking.{outcome, turns}
use Rattle.image_parts.proofs.QuestionLemmas.{outcome_bind}
use Rattle.image_parts.proofs.ToldLemmas.{told_to}
use Rattle.image_parts.specs.Contents.{Image}
use Rattle.node_boot.specs.declared.note.Note.{Note as Noted}
use Rattle.can_bus.specs.Bus.{Bus, ended_slot, frame_lines, from_delivery_on, instant, nodes_after, note_lines}
use Rattle.can_bus.specs.Bus.{power_on}
use Rattle.can_bus.specs.Lines.{line_time}
use Rattle.can_bus.specs.Runs.{is_shown, run, trace}
use Rattle.can_bus.specs.declared.line.Line.{Line}
use Rattle.can_bus.specs.declared.line.Line.TheVariants.{Frame, Note}
use Rattle.can_bus.specs.declared.slot.Slot.{Slot}
use Rattle.can_bus.proofs.InstantLemmas.{outcome_delivery, outcome_instant, run_by_events}

AreAt : ℕ → List Line → Type 0
AreAt t ls = All (λ (line : Line). line_time line ≡ t) ls

frame_at : (t : ℕ) (slot : Option Slot) → All (λ (line : Line). line_time line ≡ t) (frame_lines t slot)
frame_at t None = All-nil (λ (line : Line). line_time line ≡ t)
frame_at t (Some slot) = All-cons (λ (line : Line). line_time line ≡ t)
    (Frame t slot.frame) [] refl (All-nil (λ (line : Line). line_time line ≡ t))

notes_at : (t : ℕ) (notes : List Noted) → All (λ (line : Line). line_time line ≡ t) (note_lines t notes)
notes_at t [] = All-nil (λ (line : Line). line_time line ≡ t)
notes_at t (note ∷ notes) = All-cons (λ (line : Line). line_time line ≡ t) (Note t note)
    (note_lines t notes) refl (notes_at t notes)

delivery_lines : (image : Image) (t : ℕ) (s : Bus)
    → All (λ (line : Line). line_time line ≡ t) (outcome (from_delivery_on t s) image).1
delivery_lines image t s =
    let notes = (outcome (nodes_after t (ended_slot t s.wire) s.devices s.manager) image).1.1 in
    rw outcome_delivery (All-append (λ (line : Line). line_time line ≡ t) (frame_lines t (ended_slot t s.wire))
    (note_lines t notes) (frame_at t (ended_slot t s.wire)) (notes_at t notes))

pub lines_at : (image : Image) (t : ℕ) (s : Bus)
    → All (λ (line : Line). line_time line ≡ t) (outcome (instant t s) image).1
lines_at image t s = rw (outcome_instant t s image) (delivery_lines image t (run_by_events t s image))

-- ---- what is shown

rest_at : (t : ℕ) (l : Line) (ls : List Line) → All (λ (line : Line). line_time line ≡ t) (l ∷ ls)
    → All (λ (line : Line). line_time line ≡ t) ls
rest_at t l ls a k d h = a (suc k) d (omega (arith, h))

first_at : (t : ℕ) (l : Line) (ls : List Line) → All (λ (line : Line). line_time line ≡ t) (l ∷ ls) → line_time l ≡ t
first_at t l ls a = a 0 l (omega arith)

up_to : (a t horizon : ℕ) → a ≡ t → t ≤ horizon → nat_le a horizon ≡ true
up_to a t horizon e h = grind (arith, nat_tests)

past : (a t horizon : ℕ) → a ≡ t → horizon < t → nat_le a horizon ≡ false
past a t horizon e h = grind (arith, nat_tests)

all_shown : (horizon t : ℕ) (ls : List Line) → All (λ (line : Line). line_time line ≡ t) ls → t ≤ horizon
    → filter (is_shown horizon) ls ≡ ls
all_shown horizon t [] a h = refl
all_shown horizon t (l ∷ ls) a h =
    rw (up_to (line_time l) t horizon (first_at t l ls a) h, all_shown horizon t ls (rest_at t l ls a) h) refl

none_shown : (horizon t : ℕ) (ls : List Line) → All (λ (line : Line). line_time line ≡ t) ls → horizon < t
    → filter (is_shown horizon) ls ≡ []
none_shown horizon t [] a h = refl
none_shown horizon t (l ∷ ls) a h =
    rw (past (line_time l) t horizon (first_at t l ls a) h, none_shown horizon t ls (rest_at t l ls a) h) refl

-- a longer run shows nothing more
longer_run : (image : Image) (horizon end : ℕ) → horizon < end
    → filter (is_shown horizon) (outcome (run end) image).1 ≡ (outcome (run (horizon + 1)) image).1
unfolding run
longer_run image horizon end h =
    let split : end ≡ (horizon + 1) + (end - (horizon + 1)) = omega (arith, h) in
    let s = outcome power_on image in
    ap (λ x. filter (is_shown horizon) x.1) (outcome_bind power_on (turns instant end 0) image)
    ∙ ap (λ n. filter (is_shown horizon) (outcome (turns instant n 0 s) image).1) split
    ∙ told_to instant image (is_shown horizon) horizon
    (λ t s q. all_shown horizon t (outcome (instant t s) image).1 (lines_at image t s) q)
    (λ t s q. none_shown horizon t (outcome (instant t s) image).1 (lines_at image t s) q) (horizon + 1)
    (end - (horizon + 1)) 0 s (omega arith)
    ∙ ap (λ x. x.1) (sym (outcome_bind power_on (turns instant (horizon + 1) 0) image))

pub trace_of_run : (image : Image) (horizon end : ℕ) → horizon < end
    → filter (is_shown horizon) (outcome (run end) image).1 ≡ trace image horizon
unfolding trace
trace_of_run image horizon end h = longer_run image horizon end h
    ∙ sym (longer_run image horizon (horizon + 1) (omega arith))

pub whole_trace : (image : Image) (horizon : ℕ) → (outcome (run (horizon + 1)) image).1 ≡ trace image horizon
whole_trace image horizon = sym (longer_run image horizon (horizon + 1) (omega arith))
    ∙ trace_of_run image horizon (horizon + 1) (omega arith)

pub ruleset trace_laws = (trace_of_run, whole_trace)
