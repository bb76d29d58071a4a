-- What the manager sends periodically (CiA 301): which messages, how often, in which frames, and when each is due.
use Rattle.std.specs.Prelude.{ℕ, ◌+◌, ◌-◌, ◌*◌, ◌/◌, ◌%◌, ◌==◌, List, [], ◌∷◌, None, if◌then◌else◌}
use Rattle.std.specs.List.{flat_map}
use Rattle.base.specs.Moments.{is_due, moment_after, moments_of}
use Rattle.can_frame.specs.ErrorControl.{error_control_frame}
use Rattle.can_frame.specs.Frames.{BaseFrame}
use Rattle.can_frame.specs.Identifiers.{sync_id}
use Rattle.can_frame.specs.WaitingFrames.{with_latest}
use Rattle.can_frame.specs.declared.purpose.Purpose.{Purpose}
use Rattle.can_frame.specs.declared.purpose.Purpose.TheVariants as purpose
use Rattle.can_frame.specs.declared.waiting.Waiting.{Waiting}
use Rattle.cia301.specs.NmtStates.{state_byte}
use Rattle.cia301.specs.declared.nmt_state.NmtState.TheVariants.{Operational}
use Rattle.image_parts.specs.declared.roster.Roster.{Roster}
use Rattle.nmt_boot.specs.declared.periodic.Periodic.{Periodic}
use Rattle.nmt_boot.specs.declared.periodic_message.PeriodicMessage.{PeriodicMessage}
use Rattle.nmt_boot.specs.declared.periodic_message.PeriodicMessage.TheVariants.{Heartbeat, Time, Sync}
use Rattle.nmt_boot.specs.TimeOfDay.{time_frame}

-- ---- which messages, how often, and in which frames

-- all of them, in the order in which those of one moment are queued: the run begins at midnight of this first day of
-- TIME, and SYNC's counter has this last number, 0 for none
abbrev pub messages : ℕ → ℕ → List PeriodicMessage
messages first_day last = Heartbeat ∷ Time first_day ∷ Sync last ∷ []

-- those of a network
abbrev pub messages_of : Roster → List PeriodicMessage
messages_of roster = messages roster.first_day roster.sync_counter

-- the period in microseconds; 0 for none
abbrev pub period_of : Roster → PeriodicMessage → ℕ
period_of roster Heartbeat = 1000 * roster.heartbeat_ms
period_of roster (Time first_day) = roster.time_us
period_of roster (Sync last) = roster.sync_us

abbrev pub purpose_of : PeriodicMessage → Purpose
purpose_of Heartbeat = purpose.Heartbeat
purpose_of (Time first_day) = purpose.Time
purpose_of (Sync last) = purpose.Sync

-- the number that the k-th SYNC of a run carries: they count from 1 to the last number, and then from 1 again
abbrev pub sync_number : ℕ → ℕ → ℕ
sync_number last k = (k - 1) % last + 1

-- the k-th SYNC carries its number, where the counter has a last one, and else no byte
unfoldable pub sync_frame : ℕ → ℕ → BaseFrame
sync_frame last k = record { id = sync_id; bytes = if last == 0 then [] else sync_number last k ∷ [] }

-- that of the moment t, by the manager of a number; a heartbeat is of state Operational
unfoldable pub frame_of : ℕ → ℕ → ℕ → PeriodicMessage → BaseFrame
frame_of number t period Heartbeat = error_control_frame number (state_byte Operational)
frame_of number t period (Time first_day) = time_frame first_day t
frame_of number t period (Sync last) = sync_frame last (t / period)

-- ---- when

-- it never comes
abbrev pub silent : PeriodicMessage → Periodic
silent message = record { message = message; period = 0; next = None }

-- at power-on: it comes at the whole multiples of its period above 0
abbrev pub first_of : Roster → PeriodicMessage → Periodic
first_of roster message = record {
  message = message;
  period = period_of roster message;
  next = moment_after 0 (period_of roster message);
}

-- one that is due at t comes again a period later
abbrev pub periodic_after : ℕ → Periodic → Periodic
periodic_after t p = if is_due t p.next then record p { next = moment_after t p.period } else p

-- and takes the place of one of its purpose that still waits
abbrev pub queue_after_one : ℕ → ℕ → Periodic → List Waiting → List Waiting
queue_after_one t number p ws =
    if is_due t p.next then with_latest (purpose_of p.message) (frame_of number t p.period p.message) ws else ws

-- one after another
abbrev pub queue_after : ℕ → ℕ → List Periodic → List Waiting → List Waiting
queue_after t number [] ws = ws
queue_after t number (p ∷ ps) ws = queue_after t number ps (queue_after_one t number p ws)

-- the moments that are set
abbrev pub next_moments : List Periodic → List ℕ
next_moments ps = flat_map (λ p. moments_of p.next) ps
