-- What lasts while what is due is queued: what lasts whatever message takes the place of one of its purpose.
use Rattle.std.proofs.Common.{ℕ, Bool, true, false, List, [], ◌∷◌}
use Rattle.std.specs.Prelude.{if◌then◌else◌}
use Rattle.base.specs.Moments.{is_due}
use Rattle.can_frame.specs.WaitingFrames.{with_latest}
use Rattle.can_frame.specs.declared.waiting.Waiting.{Waiting}
use Rattle.nmt_boot.specs.Periodic.{frame_of, purpose_of, queue_after, queue_after_one}
use Rattle.nmt_boot.specs.declared.periodic.Periodic.{Periodic}
use Rattle.nmt_boot.specs.declared.periodic_message.PeriodicMessage.{PeriodicMessage}

module _ (t number : ℕ) (P : List Waiting → Type 0)
    (comes : (message : PeriodicMessage) (period : ℕ) (ws : List Waiting) → P ws
    → P (with_latest (purpose_of message) (frame_of number t period message) ws)) where
  pub queue_has : (ps : List Periodic) (ws : List Waiting) → P ws → P (queue_after t number ps ws)
  queue_has [] ws h = h
  queue_has (p ∷ ps) ws h = queue_has ps (queue_after_one t number p ws) (by (is_due t p.next))
    where
      by : (b : Bool)
          → P (if b
          then with_latest (purpose_of p.message) (frame_of number t p.period p.message) ws else ws)
      by true = comes p.message p.period ws h
      by false = h
