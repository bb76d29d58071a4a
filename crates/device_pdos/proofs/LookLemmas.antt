-- What a look at a TPDO leaves as it is.
use Rattle.std.proofs.Common.{◌≡◌, ℕ, ◌<◌, Bool, true, false, List, [], ◌∷◌, ◌++◌, Option, Some, None, refl, sym, ap}
use Rattle.std.proofs.Common.{◌∙◌}
use Rattle.std.specs.List.{AllByRecursion}
use Rattle.std.specs.Option.{option_map_or}
use Rattle.can_frame.specs.Frames.{BaseFrame}
use Rattle.can_frame.specs.declared.waiting.Waiting.{Waiting}
use Rattle.co_dict.specs.Values.{Values}
use Rattle.base.specs.Moments.{moments_of}
use Rattle.pdo_rules.specs.declared.communication.Communication.{Communication}
use Rattle.pdo_rules.specs.declared.configuration.Configuration.{Configuration}
use Rattle.pdo_rules.specs.declared.sync_seen.SyncSeen.{SyncSeen}
use Rattle.cia301.specs.declared.transmission_type.TransmissionType.{TransmissionType}
use Rattle.cia301.specs.declared.transmission_type.TransmissionType.TheVariants.{Acyclic, Cyclic, EventDriven}
use Rattle.cia301.specs.declared.transmission_type.TransmissionType.TheVariants.{Reserved, OnRequest}
use Rattle.pdo_rules.specs.Tpdo.{Remembered, Turn, acyclic_turn, cyclic_turn, without_past_inhibit, turn_by_type}
use Rattle.pdo_rules.specs.Tpdo.{turn_without_frame}
use Rattle.cia301.specs.TransmissionTypes.{is_event_driven, is_synchronous}
use Rattle.pdo_rules.proofs.TpdoLemmas.{event_is_sent, event_unsent, held_by_type, still_held}
use Rattle.device_pdos.specs.Tpdos.{bytes_now, due_of, frame_if, frame_of_turn, tpdo_after_inhibit, goes_by_sync}
use Rattle.device_pdos.specs.Tpdos.{tpdo_after_turn, moments, tpdo_moment, tpdos_after_inhibit, tpdos_after_turns}
use Rattle.device_pdos.specs.Tpdos.{turn, waits_for_event, with_frame, with_tpdos}
use Rattle.device_pdos.specs.declared.tpdo_state.TpdoState.{TpdoState}

-- what is told of a turn: what is remembered, and the frame
abbrev pub told : ℕ → List ℕ → Turn → Remembered × Option BaseFrame
told id bytes own = (own.remembered, frame_if own.is_sent id bytes)

-- ---- one that isn't sent without a SYNC

unsent_stays : (transmission : Option TransmissionType) (c : Communication) (t : ℕ) (bytes : List ℕ) (r : Remembered)
    → (turn_by_type transmission c None t bytes r).is_sent ≡ false
    → turn_by_type transmission c None t bytes r ≡ turn_without_frame r
unfolding turn_by_type acyclic_turn cyclic_turn
unsent_stays None c t bytes r e = refl
unsent_stays (Some Acyclic) c t bytes r e = refl
unsent_stays (Some (Cyclic n)) c t bytes r e = refl
unsent_stays (Some Reserved) c t bytes r e = refl
unsent_stays (Some OnRequest) c t bytes r e = refl
unsent_stays (Some EventDriven) c t bytes r e = event_unsent c t bytes r (sym (event_is_sent c t bytes r) ∙ e)

not_if : (is_sent : Bool) (id : ℕ) (bytes : List ℕ) → frame_if is_sent id bytes ≡ None → is_sent ≡ false
not_if true id bytes e = absurd cc
not_if false id bytes e = refl

by_configuration : (configuration : Option Configuration) (t : ℕ) (values : Values) (r : Remembered)
    → (turn configuration t None values r).1 ≡ None
    → (turn configuration t None values r).0 ≡ without_past_inhibit t r
unfolding turn
by_configuration None t values r e = refl
by_configuration (Some c) t values r e =
    ap (λ (own : Turn). own.remembered)
    (unsent_stays c.communication.transmission_type c.communication t (bytes_now values c)
    (without_past_inhibit t r) (not_if _ c.identifier (bytes_now values c) e))

unsent_kept : (t : ℕ) (values : Values) (p : TpdoState) → frame_of_turn t None values p ≡ None
    → tpdo_after_turn t None values p ≡ tpdo_after_inhibit t p
unsent_kept t values p e = ap (λ (r : Remembered). record p { remembered = r })
    (by_configuration p.configuration t values p.remembered e)

-- ---- the synchronous types

silent : (transmission : Option TransmissionType) (c : Communication) (t : ℕ) (bytes : List ℕ) (r : Remembered)
    → option_map_or is_synchronous transmission false ≡ true
    → turn_by_type transmission c None t bytes r ≡ turn_without_frame r
unfolding turn_by_type acyclic_turn cyclic_turn
silent None c t bytes r e = absurd cc
silent (Some Acyclic) c t bytes r e = refl
silent (Some (Cyclic n)) c t bytes r e = refl
silent (Some Reserved) c t bytes r e = absurd cc
silent (Some OnRequest) c t bytes r e = absurd cc
silent (Some EventDriven) c t bytes r e = absurd cc

without_sync : (configuration : Option Configuration) (t : ℕ) (values : Values) (r : Remembered)
    → goes_by_sync configuration ≡ true → (turn configuration t None values r).1 ≡ None
unfolding turn
without_sync None t values r e = absurd cc
without_sync (Some c) t values r e =
    ap (λ (own : Turn). (told c.identifier (bytes_now values c) own).1)
    (silent c.communication.transmission_type c.communication t (bytes_now values c) (without_past_inhibit t r) e)

module _ (t : ℕ) (values : Values) (p : TpdoState) (synchronous : goes_by_sync p.configuration ≡ true) where
  pub unsent_without_sync : frame_of_turn t None values p ≡ None
  unsent_without_sync = without_sync p.configuration t values p.remembered synchronous

  pub kept_without_sync : tpdo_after_turn t None values p ≡ tpdo_after_inhibit t p
  kept_without_sync = unsent_kept t values p unsent_without_sync

-- ---- the inhibit moment

held_type : (transmission : Option TransmissionType) (c : Communication) (seen : Option SyncSeen) (t m : ℕ) (bytes : List ℕ)
    (r : Remembered)
    → option_map_or is_event_driven transmission false ≡ true → r.inhibit ≡ Some m → t < m
    → turn_by_type transmission c seen t bytes r ≡ turn_without_frame r
held_type None c seen t m bytes r event e h = absurd cc
held_type (Some Acyclic) c seen t m bytes r event e h = absurd cc
held_type (Some (Cyclic n)) c seen t m bytes r event e h = absurd cc
held_type (Some Reserved) c seen t m bytes r event e h = absurd cc
held_type (Some OnRequest) c seen t m bytes r event e h = absurd cc
held_type (Some EventDriven) c seen t m bytes r event e h = held_by_type c seen t m bytes r e h

held_turn : (configuration : Option Configuration) (seen : Option SyncSeen) (t m : ℕ) (values : Values) (r : Remembered)
    → waits_for_event configuration ≡ true
    → r.inhibit ≡ Some m → t < m → ◌≡◌ {A = Remembered × Option BaseFrame} (turn configuration t seen values r)
    (r, None)
unfolding turn
held_turn None seen t m values r event e h = absurd cc
held_turn (Some c) seen t m values r event e h =
    let bytes : List ℕ = bytes_now values c in
    ap (λ (s : Remembered). told c.identifier bytes
    (turn_by_type c.communication.transmission_type c.communication seen t bytes s)) (still_held t m r e h)
    ∙ ap (told c.identifier bytes)
    (held_type c.communication.transmission_type c.communication seen t m bytes r event e h)

module _ (t m : ℕ) (seen : Option SyncSeen) (values : Values) (p : TpdoState) (event : waits_for_event p.configuration ≡ true)
    (held : p.remembered.inhibit ≡ Some m) (ahead : t < m) where
  pub unsent_while_inhibited : frame_of_turn t seen values p ≡ None
  unsent_while_inhibited = ap (λ (own : Remembered × Option BaseFrame). own.1)
      (held_turn p.configuration seen t m values p.remembered event held ahead)

  pub kept_while_inhibited : tpdo_after_turn t seen values p ≡ p
  kept_while_inhibited =
      ap (λ (own : Remembered × Option BaseFrame). record p { remembered = own.0 })
      (held_turn p.configuration seen t m values p.remembered event held ahead)

-- ---- between moments

no_moment : (t : ℕ) (r : Remembered) → r.inhibit ≡ None → without_past_inhibit t r ≡ r
unfolding without_past_inhibit
no_moment t r e = rw e refl

pub all_parts : {X : Type 0} (P : X → Type 0) (xs ys : List X) → AllByRecursion P (xs ++ ys)
    → AllByRecursion P xs × AllByRecursion P ys
all_parts P [] ys all = (tt, all)
all_parts P (x ∷ xs) ys all = let rest = all_parts P xs ys all.1 in ((all.0, rest.0), rest.1)

pub all_both : {X : Type 0} (P : X → Type 0) (xs ys : List X) → AllByRecursion P xs → AllByRecursion P ys
    → AllByRecursion P (xs ++ ys)
all_both P [] ys firsts rest = rest
all_both P (x ∷ xs) ys firsts rest = (firsts.0, all_both P xs ys firsts.1 rest)

-- the moment at which one is due lies after t, where its event moment counts or not
abbrev pub Ahead : ℕ → Bool → Remembered → Type 0
Ahead t counts r = AllByRecursion (λ m. t < m) (moments_of (due_of counts r.inhibit r.event))

pub held_ahead : (t : ℕ) (counts : Bool) (r : Remembered) → Ahead t counts r → without_past_inhibit t r ≡ r
held_ahead t counts r ahead = by r.inhibit refl ahead
  where
    by : (inhibit : Option ℕ) → r.inhibit ≡ inhibit
        → AllByRecursion (λ m. t < m) (moments_of (due_of counts inhibit r.event)) → without_past_inhibit t r ≡ r
    by None e h = no_moment t r e
    by (Some m) e h = still_held t m r e h.0

pub quiet_tpdos : (t : ℕ) (values : Values) (tpdos : List TpdoState)
    → AllByRecursion (λ p. frame_of_turn t None values p ≡ None) tpdos
    → AllByRecursion (λ m. t < m) (moments true tpdos)
    → tpdos_after_turns t None values tpdos ≡ tpdos
unfolding tpdos_after_turns
quiet_tpdos t values [] turn_without_frame ahead = refl
quiet_tpdos t values (p ∷ tpdos) turn_without_frame ahead =
    let split = all_parts (λ m. t < m) (moments_of (tpdo_moment true p)) (moments true tpdos) ahead in
    let held = held_ahead t (waits_for_event p.configuration) p.remembered split.0 in
    let one : tpdo_after_turn t None values p ≡ p = unsent_kept t values p turn_without_frame.0
    ∙ ap (λ (r : Remembered). record p { remembered = r }) held in
    let others = quiet_tpdos t values tpdos turn_without_frame.1 split.1 in
    ap (λ (q : TpdoState). q ∷ tpdos_after_turns t None values tpdos) one ∙ ap (λ ps. p ∷ ps) others

-- outside Operational
pub quiet_freed : (t : ℕ) (tpdos : List TpdoState) → AllByRecursion (λ m. t < m) (moments false tpdos)
    → tpdos_after_inhibit t tpdos ≡ tpdos
unfolding tpdos_after_inhibit
quiet_freed t [] ahead = refl
quiet_freed t (p ∷ tpdos) ahead =
    let split = all_parts (λ m. t < m) (moments_of (tpdo_moment false p)) (moments false tpdos) ahead in
    let one : tpdo_after_inhibit t p ≡ p = ap (λ (r : Remembered). record p { remembered = r })
    (held_ahead t false p.remembered split.0) in
    ap (λ (q : TpdoState). q ∷ tpdos_after_inhibit t tpdos) one ∙ ap (λ ps. p ∷ ps) (quiet_freed t tpdos split.1)

pub quiet_waiting : (t : ℕ) (values : Values) (tpdos : List TpdoState) (frames : List Waiting)
    → AllByRecursion (λ p. frame_of_turn t None values p ≡ None) tpdos
    → with_tpdos t None values tpdos frames ≡ frames
unfolding with_tpdos
quiet_waiting t values [] frames turn_without_frame = refl
quiet_waiting t values (p ∷ tpdos) frames turn_without_frame =
    ap (λ frame. with_tpdos t None values tpdos (with_frame p.number frame frames)) turn_without_frame.0
    ∙ quiet_waiting t values tpdos frames turn_without_frame.1
