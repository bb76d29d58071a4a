-- Windows, and the events of a moment.
use Rattle.std.proofs.Common.{◌≡◌, ℕ, suc, false, true, List, [], ◌∷◌, length, Option, Some, None, IfSome, refl, sym}
use Rattle.std.proofs.Common.{◌∙◌, arith}
use Rattle.std.specs.Prelude.{◌==◌}
use Rattle.std.proofs.lemmas.Bool.{false≢true}
use Rattle.std.proofs.lemmas.Bool.Decides.{nat_tests}
use Rattle.std.specs.List.{AllByRecursion}
use Rattle.std.specs.declared.rc.Rc.{Rc}
use Rattle.std.proofs.lemmas.List.{append-nil}
use Rattle.image_parts.specs.Asking.{Answer, Seen, outcome, reads, after_reads}
use Rattle.image_parts.proofs.QuestionLemmas.{outcome_bind, reads_bind, followed_last}
use Rattle.image_parts.proofs.RecordLemmas.{asked_none}
use Rattle.image_parts.specs.Record.{IsAsked}
use Rattle.bus_devices.proofs.StepLemmas.{all_of_them, free_within}
use Rattle.bus_devices.specs.Events.{after_events_at}
use Rattle.bus_devices.specs.Steps.{AreFree, in_window, steps_due, steps_left}
use Rattle.co_device.specs.Device.{Device}
use Rattle.image_parts.specs.Contents.{Content, Image}
use Rattle.image_parts.specs.Images.{AreInOrder, IsWithin}
use Rattle.image_parts.specs.Shared.{value_behind}
use Rattle.image_parts.specs.declared.part.Part.{Part}
use Rattle.co_scenario.specs.declared.timed_step.TimedStep.{TimedStep}
use Rattle.nmt_boot.specs.Manager.{Manager}
use Rattle.can_bus.specs.Bus.{Bus, with_nodes, after_events}

-- the events that are handed out change no object of a PDO
pub free_window : {Z : Type 0} (i : ℕ) (window : Option (Rc (List TimedStep) Z))
    → IfSome (value_behind window) (AllByRecursion (IsWithin i)) → AreFree (in_window window)
free_window i None h = tt
free_window i (Some window) h = free_within i window.value h

-- and they are in order
pub window_in_order : {Z : Type 0} (window : Option (Rc (List TimedStep) Z)) → IfSome (value_behind window) AreInOrder
    → AreInOrder (in_window window)
window_in_order None h = tt
window_in_order (Some window) h = h

not_empty : (n : ℕ) → (suc n == 0) ≡ false
not_empty n = grind (arith, nat_tests)

-- a list of no elements
empty_is : (steps : List TimedStep) → (length steps == 0) ≡ true → steps ≡ []
empty_is [] e = refl
empty_is (step ∷ steps) e = absurd (false≢true (sym (not_empty (length steps)) ∙ e))

module _ (t : ℕ) (s : Bus) where
  pub outcome_events_run : (image : Image)
      → outcome (after_events t s) image
      ≡ with_nodes t s (outcome (after_events_at t (steps_due t s.steps) (s.devices, s.manager)) image)
  unfolding after_events
  outcome_events_run image = outcome_bind (after_events_at t (steps_due t s.steps) (s.devices, s.manager))
      (λ nodes. Answer (with_nodes t s nodes)) image

  pub reads_events_run : (image : Image) → reads (after_events t s) image
      ≡ reads (after_events_at t (steps_due t s.steps) (s.devices, s.manager)) image
  unfolding after_events
  reads_events_run image = reads_bind (after_events_at t (steps_due t s.steps) (s.devices, s.manager))
      (λ nodes. Answer (with_nodes t s nodes)) image ∙ append-nil _

  pub followed_events_run : (seen : Seen Part Content)
      → after_reads (after_events t s) seen ≡ after_reads (after_events_at t (steps_due t s.steps)
      (s.devices, s.manager)) seen
  unfolding after_events
  followed_events_run seen = followed_last (after_events_at t (steps_due t s.steps) (s.devices, s.manager))
      (with_nodes t s) seen

  pub events_run_state : (image : Image) (due left : List TimedStep) (before after : List Device) (m : Manager)
      → due ≡ steps_due t s.steps → before ≡ s.devices
      → after ≡ (outcome (after_events_at t due (before, s.manager)) image).0
      → m ≡ (outcome (after_events_at t due (before, s.manager)) image).1 → left ≡ steps_left t s.steps
      → ◌≡◌ {A = Bus} (record s { devices = after; manager = m; steps = left }) (outcome (after_events t s) image)
  events_run_state image due left before after m e f d h l = rw (outcome_events_run, d, h, l, e, f)

  -- where none is due, none runs, and none is forgotten
  pub none_runs : steps_due t s.steps ≡ [] → after_events t s ≡ Answer s
  unfolding after_events after_events_at
  none_runs e =
      let left : steps_left t s.steps ≡ s.steps = rw e at (all_of_them t s.steps) in
      rw (e, left) refl

  module _ (due : List TimedStep) (are : due ≡ steps_due t s.steps) (empty : (length due == 0) ≡ true) where
    pub none_state : (image : Image) → s ≡ outcome (after_events t s) image
    none_state image = rw (none_runs (sym are ∙ empty_is due empty)) refl

    pub none_asked : (seen : Seen Part Content) (asks : ℕ) → IsAsked (after_events t s) seen seen asks asks
    none_asked seen asks = asked_none (after_events t s) s seen asks (none_runs (sym are ∙ empty_is due empty))

pub ruleset events_laws = (outcome_events_run, reads_events_run, followed_events_run)
