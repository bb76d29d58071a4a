-- Lists of frames that are a device's own, and TPDOs whose identifiers a PDO may have.
use Rattle.std.proofs.Common.{◌≡◌, ◌≢◌, ℕ, ◌==◌, Bool, true, false, not, List, [], ◌∷◌, ◌++◌, Option, Some, None}
use Rattle.std.proofs.Common.{All, refl, suc}
use Rattle.std.specs.Prelude.{IfSome, if◌then◌else◌, remove, replicate, take, drop}
use Rattle.std.proofs.lemmas.List.Elements.{All-append, All-cons, All-drop, All-filter, All-head, All-map, All-nil}
use Rattle.std.proofs.lemmas.List.Elements.{All-replicate, All-tail, All-take, All-weaker}
use Rattle.can_frame.specs.Frames.{BaseFrame}
use Rattle.can_frame.specs.WaitingFrames.{is_same, is_unwanted, waiting, with_latest, without_unwanted}
use Rattle.can_frame.specs.declared.purpose.Purpose.{Purpose}
use Rattle.can_frame.specs.declared.purpose.Purpose.TheVariants as purpose
use Rattle.can_frame.specs.declared.unwanted.Unwanted.{Unwanted}
use Rattle.can_frame.specs.declared.waiting.Waiting.{Waiting}
use Rattle.co_dict.specs.Shapes.{Shaped}
use Rattle.co_dict.specs.Values.{Values}
use Rattle.co_device.specs.Device.{heartbeat_frame}
use Rattle.cia301.specs.CobIds.{is_restricted}
use Rattle.cia301.specs.NmtStates.{state_byte}
use Rattle.cia301.specs.declared.nmt_state.NmtState.{NmtState}
use Rattle.cia301.specs.declared.nmt_state.NmtState.TheVariants.{Operational, PreOperational, Stopped}
use Rattle.pdo_rules.proofs.WorkingLemmas.{allowed}
use Rattle.pdo_rules.specs.Configured.{configuration_of}
use Rattle.pdo_rules.specs.Tpdo.{Remembered}
use Rattle.pdo_rules.specs.Working.{works}
use Rattle.cia301.specs.PdoObjects.{tpdo_object, number_of_object}
use Rattle.pdo_rules.specs.declared.configuration.Configuration.{Configuration}
use Rattle.pdo_rules.specs.declared.sync_seen.SyncSeen.{SyncSeen}
use Rattle.device_pdos.specs.Objects.{numbers_of}
use Rattle.device_pdos.specs.Tpdos.{frame_if, tpdo, tpdo_after_inhibit, tpdo_after_turn, tpdo_after_write}
use Rattle.device_pdos.specs.Tpdos.{tpdos_after_inhibit, tpdos_after_turns, tpdos_after_write, tpdos_of, turn, with_frame}
use Rattle.device_pdos.specs.Tpdos.{with_tpdos, without_memories, without_memory}
use Rattle.device_pdos.specs.declared.tpdo_state.TpdoState.{TpdoState}
use Rattle.network_laws.specs.Own.{HasFreeIdentifier, IsOwnFrame}

-- ---- frames that wait

-- the frames of a list are all the node's own
abbrev pub AreOwn : ℕ → List Waiting → Type 0
AreOwn number ws = All (λ w. IsOwnFrame number w.purpose w.frame) ws

module _ (number : ℕ) where
  abbrev Own : Waiting → Type 0
  Own w = IsOwnFrame number w.purpose w.frame

  pub own_added : (ws more : List Waiting) → AreOwn number ws → AreOwn number more → AreOwn number (ws ++ more)
  own_added ws more h k = All-append Own ws more h k

  pub own_alone : (w : Waiting) → IsOwnFrame number w.purpose w.frame → AreOwn number (w ∷ [])
  own_alone w h = All-cons Own w [] h (All-nil Own)

  pub own_replicated : (count : ℕ) (w : Waiting) → IsOwnFrame number w.purpose w.frame
      → AreOwn number (replicate count w)
  own_replicated count w h = All-replicate Own count w h

  pub own_left : (unwanted : Unwanted) (ws : List Waiting) → AreOwn number ws
      → AreOwn number (without_unwanted unwanted ws)
  own_left unwanted ws h = All-filter (λ w. not (is_unwanted unwanted w.purpose)) Own ws h

  pub own_replaced : (purpose : Purpose) (frame : BaseFrame) (ws : List Waiting) → IsOwnFrame number purpose frame
      → AreOwn number ws → AreOwn number (with_latest purpose frame ws)
  own_replaced purpose frame [] new h = All-cons Own (waiting purpose frame) [] new h
  own_replaced purpose frame (w ∷ ws) new h =
      one (is_same w.purpose purpose) (own_replaced purpose frame ws new (All-tail Own w ws h))
    where
      one : (b : Bool) → AreOwn number (with_latest purpose frame ws)
          → AreOwn number (if b then waiting purpose frame ∷ ws else w ∷ with_latest purpose frame ws)
      one true after = All-cons Own (waiting purpose frame) ws new (All-tail Own w ws h)
      one false after = All-cons Own w (with_latest purpose frame ws) (All-head Own w ws h) after

  pub own_removed : (place : ℕ) (ws : List Waiting) → AreOwn number ws → AreOwn number (remove ws place)
  own_removed place ws h = All-append Own (take place ws) (drop (suc place) ws) (All-take Own place ws h)
      (All-drop Own (suc place) ws h)

  -- a heartbeat tells a state, whose byte is not that of a boot-up message
  told_state : (state : NmtState) → state_byte state ∷ [] ≢ 0 ∷ []
  told_state PreOperational e = cc
  told_state Operational e = cc
  told_state Stopped e = cc

  pub own_heartbeat : (state : NmtState) → IsOwnFrame number purpose.Heartbeat (heartbeat_frame number state)
  own_heartbeat state = (refl, told_state state)

-- ---- TPDOs

-- all TPDOs of a list have identifiers that a PDO may have
abbrev pub AreFree : List TpdoState → Type 0
AreFree ps = All HasFreeIdentifier ps

free_if : (shape : Shaped) (values : Values) (object : ℕ) (test : Bool) → works shape values object ≡ test
    → IfSome (configuration_of shape values object) (λ c. is_restricted c.identifier ≡ false)
unfolding configuration_of
free_if shape values object true e = rw e (allowed shape values object e)
free_if shape values object false e = rw e tt

free_one : (shape : Shaped) (values : Values) (number : ℕ) → HasFreeIdentifier (tpdo shape values number)
free_one shape values number = free_if shape values (tpdo_object number) (works shape values (tpdo_object number)) refl

pub free_of : (shape : Shaped) (values : Values) → AreFree (tpdos_of shape values)
unfolding tpdos_of
free_of shape values = All-map HasFreeIdentifier (tpdo shape values) (numbers_of tpdo_object shape)
    (λ k number less. free_one shape values _)

pub free_after_write : (shape : Shaped) (values : Values) (index : ℕ) (ps : List TpdoState) → AreFree ps
    → AreFree (tpdos_after_write shape values index ps)
unfolding tpdos_after_write
free_after_write shape values index ps h = All-map HasFreeIdentifier (tpdo_after_write shape values index) ps
    (All-weaker HasFreeIdentifier (λ p. HasFreeIdentifier (tpdo_after_write shape values index p)) each ps h)
  where
    one : (test : Bool) (p : TpdoState) → HasFreeIdentifier p
        → HasFreeIdentifier (if test then tpdo shape values p.number else p)
    one true p free = free_one shape values p.number
    one false p free = free

    each : (p : TpdoState) → HasFreeIdentifier p → HasFreeIdentifier (tpdo_after_write shape values index p)
    each p free = one (p.number == number_of_object index) p free

pub free_forgotten : (ps : List TpdoState) → AreFree ps → AreFree (without_memories ps)
unfolding without_memories
free_forgotten ps h = All-map HasFreeIdentifier without_memory ps h

pub free_after_inhibit : (t : ℕ) (ps : List TpdoState) → AreFree ps → AreFree (tpdos_after_inhibit t ps)
unfolding tpdos_after_inhibit
free_after_inhibit t ps h = All-map HasFreeIdentifier (tpdo_after_inhibit t) ps h

module _ (t : ℕ) (seen : Option SyncSeen) (values : Values) where
  pub free_after_turns : (ps : List TpdoState) → AreFree ps → AreFree (tpdos_after_turns t seen values ps)
  unfolding tpdos_after_turns
  free_after_turns ps h = All-map HasFreeIdentifier (tpdo_after_turn t seen values) ps h

  module _ (number : ℕ) where
    sent : (test : Bool) (k id : ℕ) (bytes : List ℕ) (ws : List Waiting) → is_restricted id ≡ false
        → AreOwn number ws → AreOwn number (with_frame k (frame_if test id bytes) ws)
    sent true k id bytes ws free h =
        own_replaced number (purpose.Tpdo k) (record { id = id; bytes = bytes }) ws free h
    sent false k id bytes ws free h = h

    turned : (k : ℕ) (configuration : Option Configuration) (r : Remembered) (ws : List Waiting)
        → IfSome configuration (λ c. is_restricted c.identifier ≡ false) → AreOwn number ws
        → AreOwn number (with_frame k (turn configuration t seen values r).1 ws)
    unfolding turn
    turned k None r ws free h = h
    turned k (Some c) r ws free h = sent _ k c.identifier _ ws free h

    pub own_after_turns : (ps : List TpdoState) (ws : List Waiting) → AreFree ps → AreOwn number ws
        → AreOwn number (with_tpdos t seen values ps ws)
    unfolding with_tpdos
    own_after_turns [] ws free h = h
    own_after_turns (p ∷ ps) ws free h = own_after_turns ps _ (All-tail HasFreeIdentifier p ps free)
        (turned p.number p.configuration p.remembered ws (All-head HasFreeIdentifier p ps free) h)
