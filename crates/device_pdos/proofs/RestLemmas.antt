-- What a look at a TPDO leaves for later: nothing before its next moment.
use Rattle.std.proofs.Common.{◌≡◌, ℕ, ◌<◌, Bool, true, false, List, [], ◌∷◌, Option, Some, None, refl, ap, ◌∙◌, arith}
use Rattle.std.specs.Prelude.{is_none, nat_le, nat_lt, not, ◌&&◌, ◌||◌}
use Rattle.std.specs.Option.{option_map_or}
use Rattle.std.specs.Str.{bytes_eq}
use Rattle.std.specs.List.{AllByRecursion}
use Rattle.std.proofs.lemmas.Bool.Decides.{nat_tests}
use Rattle.std.proofs.lemmas.Slice.Eq.{bytes_eq-Decides}
use Rattle.can_frame.specs.declared.waiting.Waiting.{Waiting}
use Rattle.co_dict.specs.Values.{Values}
use Rattle.base.specs.Moments.{moments_of, has_come, is_ahead}
use Rattle.pdo_rules.specs.declared.communication.Communication.{Communication}
use Rattle.pdo_rules.specs.declared.configuration.Configuration.{Configuration}
use Rattle.pdo_rules.specs.declared.sync_seen.SyncSeen.{SyncSeen}
use Rattle.cia301.specs.declared.transmission_type.TransmissionType.{TransmissionType}
use Rattle.cia301.specs.declared.transmission_type.TransmissionType.TheVariants.{Acyclic, Cyclic, EventDriven}
use Rattle.cia301.specs.declared.transmission_type.TransmissionType.TheVariants.{Reserved, OnRequest}
use Rattle.pdo_rules.specs.Tpdo.{Remembered, acyclic_turn, cyclic_turn, differs, event_turn}
use Rattle.pdo_rules.specs.Tpdo.{without_past_inhibit, turn_by_type}
use Rattle.cia301.specs.TransmissionTypes.{is_event_driven}
use Rattle.pdo_rules.proofs.TpdoLemmas.{event_is_sent, event_sent, event_unsent, is_wanted_at, moments_set}
use Rattle.device_pdos.specs.Tpdos.{bytes_now, due_of, frame_if, frame_of_turn, is_wanted, is_wanted_by, moments}
use Rattle.device_pdos.specs.Tpdos.{tpdo_moment, tpdos_after_turns, turn, waits_for_event, with_tpdos}
use Rattle.device_pdos.specs.declared.tpdo_state.TpdoState.{TpdoState}
use Rattle.device_pdos.proofs.LookLemmas.{Ahead, all_parts, held_ahead, quiet_tpdos, quiet_waiting}

test_ahead : (u m : ℕ) → u < m → nat_lt u m ≡ true
test_ahead u m h = grind (arith, nat_tests)

test_not_come : (u m : ℕ) → u < m → nat_le m u ≡ false
test_not_come u m h = grind (arith, nat_tests)

event_not_come : (u : ℕ) (event : Option ℕ) → AllByRecursion (λ m. u < m) (moments_of event) → has_come u event ≡ false
event_not_come u None ahead = refl
event_not_come u (Some m) ahead = test_not_come u m ahead.0

neither : (held differ come : Bool) → held ≡ false → differ ≡ false → come ≡ false
    → (not held && (differ || come)) ≡ false
neither held differ come h d c = rw (h, d, c) refl

held_back : (held differ come : Bool) → held ≡ true → (not held && (differ || come)) ≡ false
held_back held differ come h = rw h refl

-- ---- an event-driven one that isn't wanted isn't sent before its moment

not_different : (inhibit : Option ℕ) (differ : Bool) → (is_none inhibit && differ) ≡ false → inhibit ≡ None
    → differ ≡ false
not_different None differ h e = h
not_different (Some m) differ h e = absurd cc

unwanted_unsent : (u : ℕ) (bytes : List ℕ) (r : Remembered) → Ahead u true r
    → (is_none r.inhibit && differs bytes r) ≡ false → is_wanted_at u bytes r ≡ false
unwanted_unsent u bytes r ahead unwanted = by r.inhibit refl ahead
  where
    by : (inhibit : Option ℕ) → r.inhibit ≡ inhibit
        → AllByRecursion (λ m. u < m) (moments_of (due_of true inhibit r.event)) → is_wanted_at u bytes r ≡ false
    by None e h =
        neither (is_ahead u r.inhibit) (differs bytes r) (has_come u r.event) (ap (is_ahead u) e)
        (not_different r.inhibit (differs bytes r) unwanted e) (event_not_come u r.event h)
    by (Some m) e h = held_back (is_ahead u r.inhibit) (differs bytes r) (has_come u r.event)
        (ap (is_ahead u) e ∙ test_ahead u m h.0)

-- ---- an event-driven one that had its turn isn't wanted

same_bytes : (bytes : List ℕ) → bytes_eq bytes bytes ≡ true
same_bytes bytes = (bytes_eq-Decides bytes bytes).1 refl

last_is_now : (bytes : List ℕ) (r : Remembered) → differs bytes (record r { last = Some bytes }) ≡ false
unfolding differs
last_is_now bytes r = rw same_bytes refl

-- one that wasn't sent and isn't inhibited has the bytes that it had
not_held : (inhibit : Option ℕ) (held differ come : Bool) → (not held && (differ || come)) ≡ false
    → (inhibit ≡ None → held ≡ false) → (is_none inhibit && differ) ≡ false
not_held (Some m) held differ come e h = refl
not_held None true differ come e h = absurd (let never = h refl in cc)
not_held None false true come e h = e
not_held None false false come e h = refl

nothing_differs : (inhibit : Option ℕ) (differ : Bool) → differ ≡ false → (is_none inhibit && differ) ≡ false
nothing_differs None differ e = e
nothing_differs (Some m) differ e = refl

abbrev Unwanted : List ℕ → Remembered → Type 0
Unwanted bytes r = (is_none r.inhibit && differs bytes r) ≡ false

event_unwanted : (c : Communication) (t : ℕ) (bytes : List ℕ) (r : Remembered)
    → Unwanted bytes (event_turn c t bytes r).remembered
event_unwanted c t bytes r = by (is_wanted_at t bytes r) refl
  where
    by : (test : Bool) → is_wanted_at t bytes r ≡ test → Unwanted bytes (event_turn c t bytes r).remembered
    by true e =
        let now : Remembered = moments_set c t r in
        rw (event_sent c t bytes r e) (nothing_differs now.inhibit (differs bytes (record now { last = Some bytes }))
        (last_is_now bytes now))
    by false e = rw (event_unsent c t bytes r e)
        (not_held r.inhibit (is_ahead t r.inhibit) (differs bytes r) (has_come t r.event) e (ap (is_ahead t)))

-- ---- whatever the type

-- one of a type that is event-driven isn't wanted
abbrev Idle : Option TransmissionType → List ℕ → Remembered → Type 0
Idle transmission bytes r = (option_map_or is_event_driven transmission false && is_none r.inhibit && differs bytes r)
    ≡ false

looked_idle : (transmission : Option TransmissionType) (c : Communication) (seen : Option SyncSeen) (t : ℕ) (bytes : List ℕ)
    (r : Remembered)
    → Idle transmission bytes (turn_by_type transmission c seen t bytes r).remembered
unfolding turn_by_type
looked_idle None c seen t bytes r = refl
looked_idle (Some Acyclic) c seen t bytes r = refl
looked_idle (Some (Cyclic n)) c seen t bytes r = refl
looked_idle (Some Reserved) c seen t bytes r = refl
looked_idle (Some OnRequest) c seen t bytes r = refl
looked_idle (Some EventDriven) c seen t bytes r = event_unwanted c t bytes r

idle_unsent : (transmission : Option TransmissionType) (c : Communication) (u : ℕ) (bytes : List ℕ) (r : Remembered)
    → Ahead u (option_map_or is_event_driven transmission false) r
    → Idle transmission bytes r → (turn_by_type transmission c None u bytes r).is_sent ≡ false
unfolding turn_by_type acyclic_turn cyclic_turn
idle_unsent None c u bytes r ahead unwanted = refl
idle_unsent (Some Acyclic) c u bytes r ahead unwanted = refl
idle_unsent (Some (Cyclic n)) c u bytes r ahead unwanted = refl
idle_unsent (Some Reserved) c u bytes r ahead unwanted = refl
idle_unsent (Some OnRequest) c u bytes r ahead unwanted = refl
idle_unsent (Some EventDriven) c u bytes r ahead unwanted = event_is_sent c u bytes r
    ∙ unwanted_unsent u bytes r ahead unwanted

-- ---- one TPDO, and all of a device

looked_unwanted : (configuration : Option Configuration) (seen : Option SyncSeen) (t : ℕ) (values : Values) (r : Remembered)
    → is_wanted_by configuration values (turn configuration t seen values r).0 ≡ false
unfolding turn
looked_unwanted None seen t values r = refl
looked_unwanted (Some c) seen t values r =
    looked_idle c.communication.transmission_type c.communication seen t (bytes_now values c)
    (without_past_inhibit t r)

unsent_by : (configuration : Option Configuration) (u : ℕ) (values : Values) (r : Remembered)
    → Ahead u (waits_for_event configuration) r → is_wanted_by configuration values r ≡ false
    → (turn configuration u None values r).1 ≡ None
unfolding turn
unsent_by None u values r ahead unwanted = refl
unsent_by (Some c) u values r ahead unwanted =
    let bytes : List ℕ = bytes_now values c in
    let transmission : Option TransmissionType = c.communication.transmission_type in
    ap (λ (s : Remembered). frame_if (turn_by_type transmission c.communication None u bytes s).is_sent c.identifier
    bytes) (held_ahead u (waits_for_event (Some c)) r ahead)
    ∙ ap (λ test. frame_if test c.identifier bytes) (idle_unsent transmission c.communication u bytes r ahead unwanted)

pub none_wanted : (t : ℕ) (seen : Option SyncSeen) (values : Values) (tpdos : List TpdoState)
    → AllByRecursion (λ p. is_wanted values p ≡ false) (tpdos_after_turns t seen values tpdos)
unfolding tpdos_after_turns is_wanted
none_wanted t seen values [] = tt
none_wanted t seen values (p ∷ tpdos) =
    (looked_unwanted p.configuration seen t values p.remembered, none_wanted t seen values tpdos)

module _ (u : ℕ) (values : Values) where
  pub none_sent : (tpdos : List TpdoState) → AllByRecursion (λ p. is_wanted values p ≡ false) tpdos
      → AllByRecursion (λ m. u < m) (moments true tpdos)
      → AllByRecursion (λ p. frame_of_turn u None values p ≡ None) tpdos
  unfolding is_wanted
  none_sent [] unwanted ahead = tt
  none_sent (p ∷ tpdos) unwanted ahead =
      let split = all_parts (λ m. u < m) (moments_of (tpdo_moment true p)) (moments true tpdos) ahead in
      (unsent_by p.configuration u values p.remembered split.0 unwanted.0, none_sent tpdos unwanted.1 split.1)

  pub tpdos_rest : (tpdos : List TpdoState) → AllByRecursion (λ p. is_wanted values p ≡ false) tpdos
      → AllByRecursion (λ m. u < m) (moments true tpdos)
      → tpdos_after_turns u None values tpdos ≡ tpdos
  tpdos_rest tpdos unwanted ahead = quiet_tpdos u values tpdos (none_sent tpdos unwanted ahead) ahead

  pub nothing_sent : (tpdos : List TpdoState) (frames : List Waiting)
      → AllByRecursion (λ p. is_wanted values p ≡ false) tpdos → AllByRecursion (λ m. u < m) (moments true tpdos)
      → with_tpdos u None values tpdos frames ≡ frames
  nothing_sent tpdos frames unwanted ahead = quiet_waiting u values tpdos frames (none_sent tpdos unwanted ahead)

pub ruleset rests = (none_wanted, none_sent, tpdos_rest, nothing_sent)
