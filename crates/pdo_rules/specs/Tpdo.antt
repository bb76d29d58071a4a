-- When a TPDO is sent (CiA 301). All moments are absolute, and all times are in microseconds.
use Rattle.std.specs.Prelude.{ℕ, ◌+◌, nat_le, ◌==◌, not, ◌&&◌, ◌||◌, Bool, true, false, List, Option, Some}
use Rattle.std.specs.Prelude.{None, is_none, is_some, if◌then◌else◌}
use Rattle.std.specs.Option.{option_map_or}
use Rattle.std.specs.Str.{bytes_eq}
use Rattle.base.specs.Moments.{has_come, is_ahead, moment_after}
use Rattle.pdo_rules.specs.Sync.{has_counter}
use Rattle.pdo_rules.specs.declared.communication.Communication.{Communication}
use Rattle.pdo_rules.specs.declared.sync_seen.SyncSeen.{SyncSeen}
use Rattle.cia301.specs.declared.transmission_type.TransmissionType.{TransmissionType}
use Rattle.cia301.specs.declared.transmission_type.TransmissionType.TheVariants.{Acyclic, Cyclic, EventDriven}

-- what a TPDO remembers: the bytes that were last queued, its inhibit and event moments, whether a SYNC with its start
-- value has come, and the SYNCs counted since then or since it was last sent at one
pub record Remembered : Type 0 where
  pub last : Option (List ℕ)
  pub inhibit : Option ℕ
  pub event : Option ℕ
  pub started : Bool
  pub syncs : ℕ

abbrev pub remembering_nothing : Remembered
remembering_nothing = record { last = None; inhibit = None; event = None; started = false; syncs = 0 }

-- ---- moments

-- an inhibit moment that has come is forgotten
unfoldable pub without_past_inhibit : ℕ → Remembered → Remembered
without_past_inhibit t r = if has_come t r.inhibit then record r { inhibit = None } else r

abbrev pub later : ℕ → ℕ → ℕ
later a b = if nat_le a b then b else a

-- the event moment, which isn't before the inhibit moment
abbrev pub event_moment : ℕ → Communication → Option ℕ
event_moment t c = if c.event_time == 0 then None else Some (later (t + c.event_time) (t + c.inhibit_time))

-- ---- a TPDO that works, in its turn: what it remembers then, and whether it is sent

pub record Turn : Type 0 where
  pub remembered : Remembered
  pub is_sent : Bool

-- it isn't sent
abbrev pub turn_without_frame : Remembered → Turn
turn_without_frame r = record { remembered = r; is_sent = false }

-- it is sent with these bytes
abbrev pub turn_with_frame : List ℕ → Remembered → Turn
turn_with_frame bytes r = record { remembered = record r { last = Some bytes }; is_sent = true }

-- the bytes differ from those last queued; none queued counts as different
unfoldable pub differs : List ℕ → Remembered → Bool
differs bytes r = option_map_or (λ last. not (bytes_eq last bytes)) r.last true

-- acyclic synchronous: at a SYNC where the bytes differ
unfoldable pub acyclic_turn : Option SyncSeen → List ℕ → Remembered → Turn
acyclic_turn seen bytes r =
    if is_some seen && differs bytes r then turn_with_frame bytes r else turn_without_frame r

-- a SYNC counts: it is the n-th, or one more; they are counted anew from each at which the TPDO is sent
unfoldable pub counted_turn : ℕ → List ℕ → Remembered → Turn
counted_turn n bytes r =
    if nat_le n (r.syncs + 1) then turn_with_frame bytes (record r { syncs = 0 })
    else turn_without_frame (record r { syncs = r.syncs + 1 })

-- with a start value, on a device that counts SYNCs, a TPDO waits for the SYNC that has it
abbrev pub awaits_start : ℕ → SyncSeen → Remembered → Bool
awaits_start start seen r = not (start == 0) && seen.is_counted && not r.started

-- that SYNC has come; it is the first that counts
abbrev pub just_started : Remembered → Remembered
just_started r = record r { started = true; syncs = 0 }

-- at a SYNC: one for which the TPDO doesn't wait changes nothing while it waits
unfoldable pub synced_turn : ℕ → ℕ → SyncSeen → List ℕ → Remembered → Turn
synced_turn n start seen bytes r =
    if not (awaits_start start seen r) then counted_turn n bytes r
    else if has_counter start seen then counted_turn n bytes (just_started r)
    else turn_without_frame r

-- cyclic synchronous: at each n-th SYNC that counts
unfoldable pub cyclic_turn : ℕ → ℕ → Option SyncSeen → List ℕ → Remembered → Turn
cyclic_turn n start None bytes r = turn_without_frame r
cyclic_turn n start (Some seen) bytes r = synced_turn n start seen bytes r

-- event-driven: where the bytes differ or the event moment has come, unless the inhibit moment is ahead; both moments
-- are then set from now
unfoldable pub event_turn : Communication → ℕ → List ℕ → Remembered → Turn
event_turn c t bytes r =
    if not (is_ahead t r.inhibit) && (differs bytes r || has_come t r.event)
    then turn_with_frame bytes (record r { inhibit = moment_after t c.inhibit_time; event = event_moment t c })
    else turn_without_frame r

-- THE TURN AT THE MOMENT t of one of a transmission type that has these bytes, at a SYNC or at none: one of another
-- type, or of none, is never sent
unfoldable pub turn_by_type : Option TransmissionType → Communication → Option SyncSeen → ℕ → List ℕ → Remembered → Turn
turn_by_type (Some Acyclic) c seen t bytes r = acyclic_turn seen bytes r
turn_by_type (Some (Cyclic n)) c seen t bytes r = cyclic_turn n c.sync_start seen bytes r
turn_by_type (Some EventDriven) c seen t bytes r = event_turn c t bytes r
turn_by_type other c seen t bytes r = turn_without_frame r

-- QUIET at the moment t, at a SYNC or at none: a synchronous one without a SYNC, an event-driven one that is inhibited, one
-- of another type or of none
unfoldable pub is_quiet : Option TransmissionType → Option SyncSeen → ℕ → Remembered → Bool
is_quiet (Some Acyclic) seen t r = is_none seen
is_quiet (Some (Cyclic n)) seen t r = is_none seen
is_quiet (Some EventDriven) seen t r = is_ahead t r.inhibit
is_quiet other seen t r = true
