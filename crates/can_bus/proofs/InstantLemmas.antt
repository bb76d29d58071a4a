-- An instant: the window, the events, what the nodes do, and what is on the wire.
use Rattle.std.proofs.Common.{◌≡◌, ℕ, ◌++◌, List, Option, ap, ◌∙◌}
use Rattle.std.proofs.lemmas.List.{append-nil}
use Rattle.image_parts.specs.Asking.{Answer, Seen, outcome, reads, after_reads}
use Rattle.image_parts.specs.Record.{IsAsked}
use Rattle.image_parts.proofs.QuestionLemmas.{outcome_bind, reads_bind, followed_last}
use Rattle.image_parts.proofs.RecordLemmas.{asked_bind}
use Rattle.image_parts.specs.Contents.{Content, Image}
use Rattle.image_parts.specs.declared.part.Part.{Part}
use Rattle.co_device.specs.Device.{Device}
use Rattle.nmt_boot.specs.Manager.{Manager}
use Rattle.can_bus.specs.Bus.{Bus, after_nodes, after_window, ended_slot, after_events, from_delivery_on, instant}
use Rattle.can_bus.specs.Bus.{nodes_after, open_slot, after_arbitration, after_window_start}
use Rattle.can_bus.specs.declared.slot.Slot.{Slot}

module _ (t : ℕ) (s : Bus) where
  pub outcome_delivery : (image : Image) → outcome (from_delivery_on t s) image
      ≡ after_nodes t s (outcome (nodes_after t (ended_slot t s.wire) s.devices s.manager) image)
  unfolding from_delivery_on
  outcome_delivery image = outcome_bind (nodes_after t (ended_slot t s.wire) s.devices s.manager)
      (λ q. Answer (after_nodes t s q)) image

  pub reads_delivery : (image : Image) → reads (from_delivery_on t s) image
      ≡ reads (nodes_after t (ended_slot t s.wire) s.devices s.manager) image
  unfolding from_delivery_on
  reads_delivery image = reads_bind (nodes_after t (ended_slot t s.wire) s.devices s.manager)
      (λ q. Answer (after_nodes t s q)) image ∙ append-nil _

  pub followed_delivery : (seen : Seen Part Content)
      → after_reads (from_delivery_on t s) seen
      ≡ after_reads (nodes_after t (ended_slot t s.wire) s.devices s.manager) seen
  unfolding from_delivery_on
  followed_delivery seen = followed_last (nodes_after t (ended_slot t s.wire) s.devices s.manager)
      (after_nodes t s) seen

  pub delivery_state : (image : Image) (slot wire : Option Slot) (before after : List Device) (m : Manager) (new : Bus)
      → slot ≡ ended_slot t s.wire → before ≡ s.devices
      → after ≡ (outcome (nodes_after t slot before s.manager) image).0
      → m ≡ (outcome (nodes_after t slot before s.manager) image).1.0 → wire ≡ open_slot t s.wire
      → new ≡ after_arbitration t (record {
        spent = s.spent;
        bit_time = s.bit_time;
        slots = s.slots;
        devices = after;
        manager = m;
        wire = wire;
        window = s.window;
        steps = s.steps;
      }) → new ≡ (outcome (from_delivery_on t s) image).0
  delivery_state image slot wire before after m new e f d h w n = rw (outcome_delivery, n, w, d, h, e, f)

pub ruleset delivery_laws = (outcome_delivery, reads_delivery, followed_delivery)

-- ---- the stages of an instant

module _ (t : ℕ) (s : Bus) (image : Image) where
  abbrev pub begun : Bus
  begun = outcome (after_window_start t s) image

  abbrev pub run_by_events : Bus
  run_by_events = outcome (after_events t begun) image

  pub outcome_instant : outcome (instant t s) image ≡ outcome (from_delivery_on t run_by_events) image
  unfolding instant after_window
  outcome_instant =
      outcome_bind (after_window_start t s) (λ b. after_window t b) image
      ∙ outcome_bind (after_events t begun) (λ ran. from_delivery_on t ran) image

  pub reads_instant : reads (instant t s) image
      ≡ reads (after_window_start t s) image ++ (reads (after_events t begun) image
      ++ reads (from_delivery_on t run_by_events) image)
  unfolding instant after_window
  reads_instant =
      reads_bind (after_window_start t s) (λ b. after_window t b) image
      ∙ ap (λ rs. reads (after_window_start t s) image ++ rs)
      (reads_bind (after_events t begun) (λ ran. from_delivery_on t ran) image)

pub asked_instant : (t : ℕ) (s b r : Bus) (first second third last : Seen Part Content) (x y z w : ℕ)
    → b ≡ outcome (after_window_start t s) first.image → r ≡ outcome (after_events t b) second.image
    → IsAsked (after_window_start t s) first second x y → IsAsked (after_events t b) second third y z
    → IsAsked (from_delivery_on t r) third last z w → IsAsked (instant t s) first last x w
unfolding instant after_window
asked_instant t s b r first second third last x y z w e f g h k =
    asked_bind (after_window_start t s) (λ n. after_window t n) first second last x y w g
    (rw (← e) (asked_bind (after_events t b) (λ n. from_delivery_on t n) second third last y z w h (rw (← f) k)))
