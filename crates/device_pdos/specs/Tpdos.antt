-- The TPDOs of a device at a moment (CiA 301), by number.
use Rattle.std.specs.Prelude.{ℕ, ◌==◌, ◌&&◌, true, false, Bool, List, [], ◌∷◌, map, flat_map, take, Option, Some}
use Rattle.std.specs.Prelude.{None, is_none, if◌then◌else◌}
use Rattle.std.specs.Option.{option_map_or}
use Rattle.can_frame.specs.Frames.{BaseFrame}
use Rattle.can_frame.specs.WaitingFrames.{with_latest}
use Rattle.can_frame.specs.declared.purpose.Purpose.TheVariants as purpose
use Rattle.can_frame.specs.declared.waiting.Waiting.{Waiting}
use Rattle.co_dict.specs.Shapes.{Shaped}
use Rattle.co_dict.specs.Values.{Values}
use Rattle.pdo_rules.specs.Packing.{payload_of}
use Rattle.base.specs.Moments.{moments_of}
use Rattle.pdo_rules.specs.Configured.{configuration_of}
use Rattle.pdo_rules.specs.Tpdo.{Remembered, Turn, differs, remembering_nothing, without_past_inhibit, turn_by_type}
use Rattle.cia301.specs.TransmissionTypes.{is_event_driven, is_synchronous}
use Rattle.cia301.specs.PdoObjects.{tpdo_object, number_of_object}
use Rattle.pdo_rules.specs.declared.communication.Communication.{Communication}
use Rattle.pdo_rules.specs.declared.configuration.Configuration.{Configuration}
use Rattle.pdo_rules.specs.declared.sync_seen.SyncSeen.{SyncSeen}
use Rattle.cia301.specs.declared.transmission_type.TransmissionType.{TransmissionType}
use Rattle.device_pdos.specs.Objects.{numbers_of}
use Rattle.device_pdos.specs.declared.tpdo_state.TpdoState.{TpdoState}

-- ---- as its entries say

-- a TPDO that remembers nothing
abbrev pub tpdo : Shaped → Values → ℕ → TpdoState
tpdo shape values number = record {
  number = number;
  configuration = configuration_of shape values (tpdo_object number);
  remembered = remembering_nothing;
}

-- all of a device
unfoldable pub tpdos_of : Shaped → Values → List TpdoState
tpdos_of shape values = map (tpdo shape values) (numbers_of tpdo_object shape)

-- an entry of an object was written: the TPDO that it is of is judged anew, and remembers nothing
abbrev pub tpdo_after_write : Shaped → Values → ℕ → TpdoState → TpdoState
tpdo_after_write shape values index p = if p.number == number_of_object index then tpdo shape values p.number else p

unfoldable pub tpdos_after_write : Shaped → Values → ℕ → List TpdoState → List TpdoState
tpdos_after_write shape values index tpdos = map (tpdo_after_write shape values index) tpdos

-- all that they remember is forgotten
abbrev pub without_memory : TpdoState → TpdoState
without_memory p = record p { remembered = remembering_nothing }

unfoldable pub without_memories : List TpdoState → List TpdoState
without_memories tpdos = map without_memory tpdos

-- ---- at a moment

-- the bytes that a TPDO has now
unfoldable pub bytes_now : Values → Configuration → List ℕ
bytes_now values c = take (payload_of values c.mapping).1 (payload_of values c.mapping).0

-- an inhibit moment that has come is forgotten
abbrev pub tpdo_after_inhibit : ℕ → TpdoState → TpdoState
tpdo_after_inhibit t p = record p { remembered = without_past_inhibit t p.remembered }

unfoldable pub tpdos_after_inhibit : ℕ → List TpdoState → List TpdoState
tpdos_after_inhibit t tpdos = map (tpdo_after_inhibit t) tpdos

-- its frame, if it is sent
abbrev pub frame_if : Bool → ℕ → List ℕ → Option BaseFrame
frame_if is_sent id bytes = if is_sent then Some (record { id = id; bytes = bytes }) else None

-- THE TURN OF A TPDO at the moment t, at a SYNC or at none, by what it goes by: what it remembers then, and its frame if it
-- is sent
unfoldable pub turn : Option Configuration → ℕ → Option SyncSeen → Values → Remembered → Remembered × Option BaseFrame
turn None t seen values r = (without_past_inhibit t r, None)
turn (Some c) t seen values r =
    let bytes : List ℕ = bytes_now values c in
    let by : Communication = c.communication in
    let own : Turn = turn_by_type by.transmission_type by seen t bytes (without_past_inhibit t r) in
    (own.remembered, frame_if own.is_sent c.identifier bytes)

abbrev pub tpdo_after_turn : ℕ → Option SyncSeen → Values → TpdoState → TpdoState
tpdo_after_turn t seen values p = record p { remembered = (turn p.configuration t seen values p.remembered).0 }

abbrev pub frame_of_turn : ℕ → Option SyncSeen → Values → TpdoState → Option BaseFrame
frame_of_turn t seen values p = (turn p.configuration t seen values p.remembered).1

-- it takes the place of a frame of the same TPDO that still waits
abbrev pub with_frame : ℕ → Option BaseFrame → List Waiting → List Waiting
with_frame number None frames = frames
with_frame number (Some frame) frames = with_latest (purpose.Tpdo number) frame frames

-- EACH TPDO IN ITS TURN, by number: what they remember, and what waits
unfoldable pub tpdos_after_turns : ℕ → Option SyncSeen → Values → List TpdoState → List TpdoState
tpdos_after_turns t seen values tpdos = map (tpdo_after_turn t seen values) tpdos

unfoldable pub with_tpdos : ℕ → Option SyncSeen → Values → List TpdoState → List Waiting → List Waiting
with_tpdos t seen values [] frames = frames
with_tpdos t seen values (p ∷ tpdos) frames =
    with_tpdos t seen values tpdos (with_frame p.number (frame_of_turn t seen values p) frames)

-- ---- what a TPDO waits for

-- it works, and is of such a transmission type
abbrev pub has_type : (TransmissionType → Bool) → Option Configuration → Bool
has_type is_type None = false
has_type is_type (Some c) = option_map_or is_type c.communication.transmission_type false

abbrev pub goes_by_sync : Option Configuration → Bool
goes_by_sync configuration = has_type is_synchronous configuration

abbrev pub waits_for_event : Option Configuration → Bool
waits_for_event configuration = has_type is_event_driven configuration

-- one that works, is event-driven and isn't inhibited is wanted where its bytes differ from those last queued
abbrev pub is_wanted_by : Option Configuration → Values → Remembered → Bool
is_wanted_by None values r = false
is_wanted_by (Some c) values r = waits_for_event (Some c) && is_none r.inhibit && differs (bytes_now values c) r

unfoldable pub is_wanted : Values → TpdoState → Bool
is_wanted values p = is_wanted_by p.configuration values p.remembered

-- ---- the moment at which a TPDO is due

-- while it is inhibited, the end of that; else its event moment, where it counts
abbrev pub due_of : Bool → Option ℕ → Option ℕ → Option ℕ
due_of counts (Some inhibit) event = Some inhibit
due_of true None event = event
due_of false None event = None

-- event moments count of event-driven TPDOs, in Operational
abbrev pub tpdo_moment : Bool → TpdoState → Option ℕ
tpdo_moment operational p = due_of (operational
    && waits_for_event p.configuration) p.remembered.inhibit p.remembered.event

abbrev pub moments : Bool → List TpdoState → List ℕ
moments operational tpdos = flat_map (λ p. moments_of (tpdo_moment operational p)) tpdos
