-- What the manager sends periodically, at each moment of a run.
use Rattle.std.proofs.Common.{◌↔◌, ℕ, ◌+◌, ◌*◌, refl}
use Rattle.std.specs.Prelude.{Contains}
use Rattle.image_parts.specs.Asking.{outcome}
use Rattle.image_parts.specs.Contents.{Image, roster_of}
use Rattle.image_parts.specs.declared.part.Part.TheVariants.{Roster}
use Rattle.image_parts.specs.declared.roster.Roster.{Roster as Network}
use Rattle.nmt_boot.proofs.BeatLemmas.{command_on_time, due_at_multiples, frame_on_time, on_time_first, timers_on_time}
use Rattle.nmt_boot.specs.Beats.{HasNumbersOf, IsMultiple, IsOnTime, due_messages}
use Rattle.nmt_boot.proofs.StampLemmas.{command_tells, first_tells, frame_tells, sent_tells, timers_tell}
use Rattle.nmt_boot.specs.Manager.{Manager}
use Rattle.nmt_boot.specs.Periodic.{period_of}
use Rattle.nmt_boot.specs.Stamps.{TellsWhenDue}
use Rattle.nmt_boot.specs.declared.periodic_message.PeriodicMessage.{PeriodicMessage}
use Rattle.nmt_boot.specs.declared.periodic_message.PeriodicMessage.TheVariants.{Heartbeat, Time, Sync}
use Rattle.can_bus.specs.Bus.{Bus, ended_slot, instant, power_on}
use Rattle.can_bus.proofs.PowerLemmas.{outcome_power_on_of}
use Rattle.can_bus.specs.Spans.{bus_at}
use Rattle.can_bus.proofs.SpanLemmas.{at_each_moment}
use Rattle.network_laws.proofs.ThroughLemmas.{hears_keeps, manager_through}

on_time_on : (image : Image) → IsOnTime (roster_of (image Roster)) 0 (outcome power_on image).manager
unfolding power_on
on_time_on image = rw (outcome_power_on_of (roster_of (image Roster)) image) (on_time_first (roster_of (image Roster)))

on_time_next : (image : Image) (network : Network) (t : ℕ) (s : Bus) → IsOnTime network t s.manager
    → IsOnTime network (t + 1) (outcome (instant t s) image).0.manager
on_time_next image network t s h =
    manager_through image t s (IsOnTime network t) (IsOnTime network t) (IsOnTime network (t + 1))
    (command_on_time network t)
    (hears_keeps image t (IsOnTime network t) (λ slot m k. frame_on_time network image t slot.frame m k)
    (ended_slot t s.wire))
    (timers_on_time network t)
    (λ m place k. k)
    h

-- on time, and each TIME that waits tells when it was due
abbrev IsStamped : Network → ℕ → Manager → Type 0
IsStamped network t m = IsOnTime network t m × TellsWhenDue network t m

stamped_on : (image : Image) → IsStamped (roster_of (image Roster)) 0 (outcome power_on image).manager
unfolding power_on
stamped_on image = (
  on_time_on image,
  rw (outcome_power_on_of (roster_of (image Roster)) image) (first_tells (roster_of (image Roster))),
)

stamped_next : (image : Image) (network : Network) (t : ℕ) (s : Bus) → IsStamped network t s.manager
    → IsStamped network (t + 1) (outcome (instant t s) image).0.manager
stamped_next image network t s h =
    manager_through image t s (IsStamped network t) (IsStamped network t) (IsStamped network (t + 1))
    (λ c node m k. (command_on_time network t c node m k.0, command_tells network t c node m k.1))
    (hears_keeps image t (IsStamped network t)
    (λ slot m k. (frame_on_time network image t slot.frame m k.0, frame_tells network image t slot.frame m k.1))
    (ended_slot t s.wire))
    (λ m k. (timers_on_time network t m k.0, timers_tell network t m k.0 k.1))
    (λ m place k. (k.0, sent_tells network (t + 1) place m k.1))
    h

module _ (image : Image) (t : ℕ) where
  abbrev network : Network
  network = roster_of (image Roster)

  pub on_time : IsOnTime network t (bus_at image t).manager
  on_time = at_each_moment image (λ u s. IsOnTime (roster_of (image Roster)) u s.manager) (on_time_on image)
      (on_time_next image (roster_of (image Roster))) t

  -- each TIME that waits tells when it was due
  pub tells_when_due : TellsWhenDue network t (bus_at image t).manager
  tells_when_due = (at_each_moment image (λ u s. IsStamped (roster_of (image Roster)) u s.manager) (stamped_on image)
      (stamped_next image (roster_of (image Roster))) t).1

  abbrev IsDue : PeriodicMessage → Type 0
  IsDue message = Contains (due_messages t (bus_at image t).manager.periodic) message

  pub due_at_multiples_of_run : (message : PeriodicMessage) → IsDue message
      ↔ (HasNumbersOf network message × IsMultiple t (period_of network message))
  due_at_multiples_of_run message = due_at_multiples network t (bus_at image t).manager message on_time

  -- a message of the network
  at_its_multiples : (message : PeriodicMessage) → HasNumbersOf network message
      → IsDue message ↔ IsMultiple t (period_of network message)
  at_its_multiples message one = let due = due_at_multiples_of_run message in
      (λ h. (due.0 h).1, λ multiple. due.1 (one, multiple))

  pub heartbeat_at_multiples : IsDue Heartbeat ↔ IsMultiple t (1000 * network.heartbeat_ms)
  heartbeat_at_multiples = at_its_multiples Heartbeat tt

  pub time_at_multiples : IsDue (Time network.first_day) ↔ IsMultiple t network.time_us
  time_at_multiples = at_its_multiples (Time network.first_day) refl

  pub sync_at_multiples : IsDue (Sync network.sync_counter) ↔ IsMultiple t network.sync_us
  sync_at_multiples = at_its_multiples (Sync network.sync_counter) refl
