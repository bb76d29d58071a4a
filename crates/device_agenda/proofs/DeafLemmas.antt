-- A frame that is nothing to a device at rest changes nothing in the instant of its delivery, and nothing is read for
-- it.
use Rattle.std.proofs.Common.{◌≡◌, ℕ, zero, suc, ◌<◌, ◌==◌, Bool, true, false, not, List, [], ◌∷◌, Option, Some, None}
use Rattle.std.proofs.Common.{inl, inr, refl, sym, ap, ◌∙◌}
use Rattle.std.specs.Prelude.{if◌then◌else◌}
use Rattle.std.specs.List.{AllByRecursion}
use Rattle.std.specs.Option.{option_map_or}
use Rattle.image_parts.specs.Asking.{Asking, Answer, bind}
use Rattle.can_frame.specs.Frames.{BaseFrame}
use Rattle.can_frame.specs.declared.waiting.Waiting.{Waiting}
use Rattle.co_dict.specs.Values.{Values}
use Rattle.image_parts.specs.Contents.{Content}
use Rattle.image_parts.specs.declared.part.Part.{Part}
use Rattle.pdo_rules.specs.Sync.{sync_message}
use Rattle.pdo_rules.specs.Tpdo.{Remembered, without_past_inhibit, turn_by_type}
use Rattle.cia301.specs.TransmissionTypes.{is_synchronous}
use Rattle.pdo_rules.specs.declared.communication.Communication.{Communication}
use Rattle.pdo_rules.specs.declared.configuration.Configuration.{Configuration}
use Rattle.pdo_rules.specs.declared.sync.SyncMessage.{SyncMessage}
use Rattle.pdo_rules.specs.declared.sync_seen.SyncSeen.{SyncSeen}
use Rattle.cia301.specs.declared.transmission_type.TransmissionType.{TransmissionType}
use Rattle.cia301.specs.declared.transmission_type.TransmissionType.TheVariants.{Acyclic, Cyclic, EventDriven}
use Rattle.cia301.specs.declared.transmission_type.TransmissionType.TheVariants.{Reserved, OnRequest}
use Rattle.device_objects.specs.Profile.{counter_overflow}
use Rattle.device_pdos.specs.Rpdos.{rpdo_at}
use Rattle.device_pdos.specs.Tpdos as tpdos
use Rattle.device_pdos.specs.Tpdos.{bytes_now, frame_of_turn, goes_by_sync, tpdo_after_turn, tpdos_after_turns, turn}
use Rattle.device_pdos.specs.Tpdos.{with_frame, with_tpdos}
use Rattle.device_pdos.specs.declared.rpdo_state.RpdoState.{RpdoState}
use Rattle.device_pdos.specs.declared.tpdo_state.TpdoState.{TpdoState}
use Rattle.device_pdos.proofs.LookLemmas.{told}
use Rattle.device_pdos.proofs.RestLemmas.{nothing_sent, tpdos_rest}
use Rattle.co_device.specs.Device.{Device, is_in, moments, after_instant, after_tpdos}
use Rattle.co_device.specs.Receiving.{after_kept_frame, rpdo_places, after_frame, after_sync_at, after_sync, walk}
use Rattle.co_device.specs.Receiving.{after_reception}
use Rattle.cia301.specs.declared.nmt_state.NmtState.TheVariants.{Operational}
use Rattle.device_agenda.specs.Deaf.{AwaitsNoSync, IsDeafTo, IsIdleSync}
use Rattle.device_agenda.specs.Rest.{Rests}
use Rattle.device_agenda.proofs.AheadLemmas.{quiet}
use Rattle.device_agenda.proofs.IgnoredLemmas.{ignored_changes_nothing}
use Rattle.device_agenda.proofs.RestLemmas.{LieAfter, equal, quiet_at_rest, timers_ahead, tpdos_after}

-- ---- RPDOs that keep no frame

none_kept : (rpdos : List RpdoState) → AllByRecursion (λ p. p.kept ≡ None) rpdos → (i : ℕ)
    → (rpdo_at rpdos i).kept ≡ None
none_kept [] h i = refl
none_kept (p ∷ rpdos) h zero = h.0
none_kept (p ∷ rpdos) h (suc i) = none_kept rpdos h.1 i

module _ (t : ℕ) (d : Device) (nothing_kept : AllByRecursion (λ p. p.kept ≡ None) d.rpdos) where
  one_idle : (i : ℕ) → after_sync_at t i d ≡ Answer d
  unfolding after_sync_at after_kept_frame
  one_idle i = rw (none_kept d.rpdos nothing_kept i) refl

  walk_idle : (numbers : List ℕ) → walk (after_sync_at t) numbers d ≡ Answer d
  walk_idle [] = refl
  walk_idle (i ∷ numbers) = ap (λ (m : Asking Part Content Device). bind m (walk (after_sync_at t) numbers))
      (one_idle i) ∙ walk_idle numbers

-- ---- TPDOs that don't go by SYNC have their turn as without it

turn_alike : (transmission : Option TransmissionType) (c : Communication) (seen : SyncSeen) (t : ℕ) (bytes : List ℕ)
    (r : Remembered)
    → option_map_or is_synchronous transmission false ≡ false
    → turn_by_type transmission c (Some seen) t bytes r ≡ turn_by_type transmission c None t bytes r
unfolding turn_by_type
turn_alike None c seen t bytes r h = refl
turn_alike (Some Acyclic) c seen t bytes r h = absurd cc
turn_alike (Some (Cyclic n)) c seen t bytes r h = absurd cc
turn_alike (Some Reserved) c seen t bytes r h = refl
turn_alike (Some OnRequest) c seen t bytes r h = refl
turn_alike (Some EventDriven) c seen t bytes r h = refl

module _ (t : ℕ) (values : Values) (seen : SyncSeen) where
  turns_alike : (configuration : Option Configuration) (r : Remembered) → goes_by_sync configuration ≡ false
      → turn configuration t (Some seen) values r ≡ turn configuration t None values r
  unfolding turn
  turns_alike None r h = refl
  turns_alike (Some c) r h = ap (told c.identifier (bytes_now values c))
      (turn_alike c.communication.transmission_type c.communication seen t (bytes_now values c)
      (without_past_inhibit t r) h)

  one_alike : (p : TpdoState) → goes_by_sync p.configuration ≡ false
      → tpdo_after_turn t (Some seen) values p ≡ tpdo_after_turn t None values p
  one_alike p h = ap (λ (own : Remembered × Option BaseFrame). record p { remembered = own.0 })
      (turns_alike p.configuration p.remembered h)

  all_alike : (ps : List TpdoState) → AllByRecursion (λ p. goes_by_sync p.configuration ≡ false) ps
      → tpdos_after_turns t (Some seen) values ps ≡ tpdos_after_turns t None values ps
  unfolding tpdos_after_turns
  all_alike [] h = refl
  all_alike (p ∷ ps) h =
      ap (λ (q : TpdoState). q ∷ tpdos_after_turns t (Some seen) values ps) (one_alike p h.0)
      ∙ ap (λ (qs : List TpdoState). tpdo_after_turn t None values p ∷ qs) (all_alike ps h.1)

  waiting_alike : (ps : List TpdoState) (frames : List Waiting)
      → AllByRecursion (λ p. goes_by_sync p.configuration ≡ false) ps
      → with_tpdos t (Some seen) values ps frames ≡ with_tpdos t None values ps frames
  unfolding with_tpdos
  waiting_alike [] frames h = refl
  waiting_alike (p ∷ ps) frames h =
      ap (λ (own : Remembered × Option BaseFrame). with_tpdos t (Some seen) values ps (with_frame p.number own.1 frames))
      (turns_alike p.configuration p.remembered h.0)
      ∙ waiting_alike ps (with_frame p.number (frame_of_turn t None values p) frames) h.1

-- ---- the instant

-- one of two trees, with what the test gave
one_tree : (P : Asking Part Content Device → Type 0) (b : Bool) (m n : Asking Part Content Device) → (b ≡ true → P m)
    → (b ≡ false → P n) → P (if b then m else n)
one_tree P true m n p q = p refl
one_tree P false m n p q = q refl

module _ (t : ℕ) (d : Device) (rests : Rests d) (ahead : LieAfter t (moments d)) where
  -- what the device hears first leaves it as it was when the instant ends
  abbrev IsNothing : Asking Part Content Device → Type 0
  IsNothing m = bind m (λ heard. Answer (after_instant t heard)) ≡ Answer d

  nothing_heard : IsNothing (Answer d)
  nothing_heard = ap (λ (x : Device). Answer x) (quiet_at_rest t d rests ahead)

  module _ (sync : SyncMessage) (awaits : AwaitsNoSync d) (on : is_in Operational d ≡ true) where
    abbrev Heard : Device
    Heard = record d { synced = Some sync }

    abbrev Seen : SyncSeen
    Seen = record { counter = sync.counter; is_counted = not (counter_overflow d.learnt d.values == 0) }

    tpdos_in_operational : LieAfter t (tpdos.moments true d.tpdos)
    tpdos_in_operational = rw on at (tpdos_after t d ahead)

    looked_at_sync : after_tpdos t Heard ≡ d
    unfolding after_tpdos
    looked_at_sync =
        let unwanted = rests.unwanted on in
        rw on
        (equal d None _ _ (sym rests.unsynced)
        (all_alike t d.values Seen d.tpdos awaits.no_tpdo ∙ tpdos_rest t d.values d.tpdos unwanted tpdos_in_operational)
        (waiting_alike t d.values Seen d.tpdos d.waiting awaits.no_tpdo
        ∙ nothing_sent t d.values d.tpdos d.waiting unwanted tpdos_in_operational))

    ran_at_sync : after_instant t Heard ≡ d
    unfolding after_instant
    ran_at_sync =
        let h = timers_ahead t d ahead in
        ap (after_tpdos t) (quiet t Heard
        (record { heartbeat = h.heartbeat; consumers = h.consumers }))
        ∙ looked_at_sync

    walk_is_nothing : IsNothing (walk (after_sync_at t) (rpdo_places d) Heard)
    walk_is_nothing =
        ap (λ (m : Asking Part Content Device). bind m (λ heard. Answer (after_instant t heard)))
        (walk_idle t Heard awaits.nothing_kept (rpdo_places d))
        ∙ ap (λ (x : Device). Answer x) ran_at_sync

  sync_is_nothing : (bytes : List ℕ) → AwaitsNoSync d → IsNothing (after_sync t bytes d)
  unfolding after_sync
  sync_is_nothing bytes awaits = one_tree IsNothing (is_in Operational d) _ _
      (walk_is_nothing (sync_message bytes) awaits) (λ e. nothing_heard)

  idle_is_nothing : (frame : BaseFrame) → IsIdleSync frame d → IsNothing (after_frame t frame d)
  unfolding after_frame after_reception
  idle_is_nothing frame h = rw h.is_sync (sync_is_nothing frame.bytes h.awaits_none)

  deaf_is_nothing : (frame : BaseFrame) → IsDeafTo frame d → IsNothing (after_frame t frame d)
  deaf_is_nothing frame (inl h) =
      ap (λ (m : Asking Part Content Device). bind m (λ heard. Answer (after_instant t heard)))
      (ignored_changes_nothing t frame d h) ∙ nothing_heard
  deaf_is_nothing frame (inr h) = idle_is_nothing frame h

pub nothing_comes_of_it : (t : ℕ) (frame : BaseFrame) (d : Device) → Rests d → AllByRecursion (λ m. t < m) (moments d)
    → IsDeafTo frame d
    → bind (after_frame t frame d) (λ heard. Answer (after_instant t heard)) ≡ Answer d
nothing_comes_of_it t frame d rests ahead deaf = deaf_is_nothing t d rests ahead frame deaf
