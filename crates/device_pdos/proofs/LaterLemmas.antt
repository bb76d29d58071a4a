-- After a look at the TPDOs every moment of theirs lies later.
use Rattle.std.proofs.Common.{◌≡◌, ℕ, zero, suc, ◌+◌, ◌==◌, ◌<◌, Bool, true, false, List, [], ◌∷◌, Option, Some, None}
use Rattle.std.proofs.Common.{refl, ap, arith}
use Rattle.std.specs.Prelude.{if◌then◌else◌, is_some, nat_le, not, ◌&&◌, ◌||◌}
use Rattle.std.specs.List.{AllByRecursion}
use Rattle.std.specs.Option.{option_map_or}
use Rattle.std.proofs.lemmas.Bool.Decides.{nat_tests}
use Rattle.co_dict.specs.Values.{Values}
use Rattle.base.specs.Moments.{moments_of, has_come, is_ahead, moment_after}
use Rattle.pdo_rules.specs.declared.communication.Communication.{Communication}
use Rattle.pdo_rules.specs.declared.configuration.Configuration.{Configuration}
use Rattle.pdo_rules.specs.declared.sync_seen.SyncSeen.{SyncSeen}
use Rattle.cia301.specs.declared.transmission_type.TransmissionType.{TransmissionType}
use Rattle.cia301.specs.declared.transmission_type.TransmissionType.TheVariants.{Acyclic, Cyclic, EventDriven}
use Rattle.cia301.specs.declared.transmission_type.TransmissionType.TheVariants.{Reserved, OnRequest}
use Rattle.pdo_rules.specs.Sync.{has_counter}
use Rattle.pdo_rules.specs.Tpdo.{Remembered, acyclic_turn, awaits_start, counted_turn, cyclic_turn, differs}
use Rattle.pdo_rules.specs.Tpdo.{event_moment, event_turn, just_started, without_past_inhibit, later, synced_turn}
use Rattle.pdo_rules.specs.Tpdo.{turn_with_frame, turn_by_type, turn_without_frame}
use Rattle.cia301.specs.TransmissionTypes.{is_event_driven}
use Rattle.pdo_rules.proofs.TpdoLemmas.{event_sent, event_unsent, is_wanted_at}
use Rattle.device_pdos.specs.Tpdos.{bytes_now, due_of, tpdo_after_inhibit, tpdo_after_turn, moments, tpdo_moment}
use Rattle.device_pdos.specs.Tpdos.{tpdos_after_inhibit, tpdos_after_turns, turn, waits_for_event}
use Rattle.device_pdos.specs.declared.tpdo_state.TpdoState.{TpdoState}
use Rattle.device_pdos.proofs.LookLemmas.{Ahead, all_both}

abbrev IsLater : ℕ → Option ℕ → Type 0
IsLater t moment = AllByRecursion (λ m. t < m) (moments_of moment)

not_come : (t m : ℕ) → nat_le m t ≡ false → t < m
not_come t m e = grind (arith, nat_tests)

still_later : (t : ℕ) (moment : Option ℕ) → has_come t moment ≡ false → IsLater t moment
still_later t None e = tt
still_later t (Some m) e = (not_come t m e, tt)

pub freed_later : (t : ℕ) (r : Remembered) → IsLater t (without_past_inhibit t r).inhibit
unfolding without_past_inhibit
freed_later t r = by (has_come t r.inhibit) refl
  where
    by : (test : Bool) → has_come t r.inhibit ≡ test
        → IsLater t (if test then record r { inhibit = None } else r).inhibit
    by true e = tt
    by false e = still_later t r.inhibit e

-- where the event moment doesn't count
inhibit_alone : (t : ℕ) (inhibit event : Option ℕ) → IsLater t inhibit → IsLater t (due_of false inhibit event)
inhibit_alone t None event h = tt
inhibit_alone t (Some m) event h = h

-- ---- the synchronous types

inhibit_of : (test : Bool) (bytes : List ℕ) (r s : Remembered) → r.inhibit ≡ s.inhibit
    → (if test then turn_with_frame bytes r else turn_without_frame s).remembered.inhibit ≡ s.inhibit
inhibit_of true bytes r s e = e
inhibit_of false bytes r s e = refl

acyclic_inhibit : (seen : Option SyncSeen) (bytes : List ℕ) (r : Remembered)
    → (acyclic_turn seen bytes r).remembered.inhibit ≡ r.inhibit
unfolding acyclic_turn
acyclic_inhibit seen bytes r = inhibit_of (is_some seen && differs bytes r) bytes r r refl

counted_inhibit : (n : ℕ) (bytes : List ℕ) (r : Remembered)
    → (counted_turn n bytes r).remembered.inhibit ≡ r.inhibit
unfolding counted_turn
counted_inhibit n bytes r = inhibit_of (nat_le n (r.syncs + 1)) bytes (record r { syncs = 0 })
    (record r { syncs = r.syncs + 1 }) refl

synced_inhibit : (n start : ℕ) (seen : SyncSeen) (bytes : List ℕ) (r : Remembered)
    → (synced_turn n start seen bytes r).remembered.inhibit ≡ r.inhibit
unfolding synced_turn
synced_inhibit n start seen bytes r = by (not (awaits_start start seen r)) (has_counter start seen)
  where
    by : (goes has : Bool)
        → (if goes then counted_turn n bytes r
        else if has then counted_turn n bytes (just_started r) else turn_without_frame r).remembered.inhibit ≡ r.inhibit
    by true has = counted_inhibit n bytes r
    by false true = counted_inhibit n bytes (just_started r)
    by false false = refl

cyclic_inhibit : (n start : ℕ) (seen : Option SyncSeen) (bytes : List ℕ) (r : Remembered)
    → (cyclic_turn n start seen bytes r).remembered.inhibit ≡ r.inhibit
unfolding cyclic_turn
cyclic_inhibit n start None bytes r = refl
cyclic_inhibit n start (Some seen) bytes r = synced_inhibit n start seen bytes r

-- ---- the event-driven type

positive : (t time : ℕ) → (time == 0) ≡ false → t < t + time
positive t zero e = absurd (grind (arith, nat_tests))
positive t (suc time) e = omega arith

after_the_first : (t a b : ℕ) → t < a → t < later a b
after_the_first t a b h = by (nat_le a b) refl
  where
    by : (test : Bool) → nat_le a b ≡ test → t < (if test then b else a)
    by true e = grind (arith, nat_tests)
    by false e = h

events_later : (t : ℕ) (c : Communication) → IsLater t (event_moment t c)
events_later t c = by (c.event_time == 0) refl
  where
    by : (none : Bool) → (c.event_time == 0) ≡ none
        → IsLater t (if none then None else Some (later (t + c.event_time) (t + c.inhibit_time)))
    by true e = tt
    by false e = (after_the_first t (t + c.event_time) (t + c.inhibit_time) (positive t c.event_time e), tt)

set_later : (t : ℕ) (c : Communication) → IsLater t (due_of true (moment_after t c.inhibit_time) (event_moment t c))
set_later t c = by (c.inhibit_time == 0) refl
  where
    by : (none : Bool) → (c.inhibit_time == 0) ≡ none
        → IsLater t (due_of true (if none then None else Some (t + c.inhibit_time)) (event_moment t c))
    by true e = events_later t c
    by false e = (positive t c.inhibit_time e, tt)

no_event_yet : (held differ come : Bool) → (not held && (differ || come)) ≡ false → held ≡ false → come ≡ false
no_event_yet true differ come e h = absurd cc
no_event_yet false true come e h = absurd cc
no_event_yet false false come e h = e

unsent_later : (t : ℕ) (bytes : List ℕ) (r : Remembered) → is_wanted_at t bytes r ≡ false → IsLater t r.inhibit
    → Ahead t true r
unsent_later t bytes r turn_without_frame held = by r.inhibit refl held
  where
    by : (inhibit : Option ℕ) → r.inhibit ≡ inhibit → IsLater t inhibit → IsLater t (due_of true inhibit r.event)
    by None e h = still_later t r.event (no_event_yet (is_ahead t r.inhibit) (differs bytes r)
        (has_come t r.event) turn_without_frame (ap (is_ahead t) e))
    by (Some m) e h = h

event_later : (c : Communication) (t : ℕ) (bytes : List ℕ) (r : Remembered) → IsLater t r.inhibit
    → Ahead t true (event_turn c t bytes r).remembered
event_later c t bytes r h = by (is_wanted_at t bytes r) refl
  where
    by : (test : Bool) → is_wanted_at t bytes r ≡ test → Ahead t true (event_turn c t bytes r).remembered
    by true e = rw (event_sent c t bytes r e) (set_later t c)
    by false e = rw (event_unsent c t bytes r e) (unsent_later t bytes r e h)

-- ---- whatever the type

later_by_type : (transmission : Option TransmissionType) (c : Communication) (seen : Option SyncSeen) (t : ℕ) (bytes : List ℕ)
    (r : Remembered) → IsLater t r.inhibit
    → Ahead t (option_map_or is_event_driven transmission false)
    (turn_by_type transmission c seen t bytes r).remembered
unfolding turn_by_type
later_by_type transmission c seen t bytes r h = by transmission
  where
    still : (s : Remembered) → s.inhibit ≡ r.inhibit → Ahead t false s
    still s e = inhibit_alone t s.inhibit s.event (rw e h)

    by : (transmission : Option TransmissionType)
        → Ahead t (option_map_or is_event_driven transmission false)
        (turn_by_type transmission c seen t bytes r).remembered
    by None = still r refl
    by (Some Acyclic) = still (acyclic_turn seen bytes r).remembered (acyclic_inhibit seen bytes r)
    by (Some (Cyclic n)) = still (cyclic_turn n c.sync_start seen bytes r).remembered
        (cyclic_inhibit n c.sync_start seen bytes r)
    by (Some Reserved) = still r refl
    by (Some OnRequest) = still r refl
    by (Some EventDriven) = event_later c t bytes r h

-- ---- one TPDO, and all of a device

later_by : (configuration : Option Configuration) (t : ℕ) (seen : Option SyncSeen) (values : Values) (r : Remembered)
    → Ahead t (waits_for_event configuration) (turn configuration t seen values r).0
unfolding turn
later_by None t seen values r = inhibit_alone t (without_past_inhibit t r).inhibit (without_past_inhibit t r).event
    (freed_later t r)
later_by (Some c) t seen values r =
    later_by_type c.communication.transmission_type c.communication seen t (bytes_now values c)
    (without_past_inhibit t r) (freed_later t r)

pub looked_later : (t : ℕ) (seen : Option SyncSeen) (values : Values) (tpdos : List TpdoState)
    → AllByRecursion (λ m. t < m) (moments true (tpdos_after_turns t seen values tpdos))
unfolding tpdos_after_turns
looked_later t seen values [] = tt
looked_later t seen values (p ∷ tpdos) =
    all_both (λ m. t < m) (moments_of (tpdo_moment true (tpdo_after_turn t seen values p)))
    (moments true (tpdos_after_turns t seen values tpdos))
    (later_by p.configuration t seen values p.remembered) (looked_later t seen values tpdos)

pub all_freed_later : (t : ℕ) (tpdos : List TpdoState)
    → AllByRecursion (λ m. t < m) (moments false (tpdos_after_inhibit t tpdos))
unfolding tpdos_after_inhibit
all_freed_later t [] = tt
all_freed_later t (p ∷ tpdos) =
    all_both (λ m. t < m) (moments_of (tpdo_moment false (tpdo_after_inhibit t p)))
    (moments false (tpdos_after_inhibit t tpdos))
    (inhibit_alone t (without_past_inhibit t p.remembered).inhibit (without_past_inhibit t p.remembered).event
    (freed_later t p.remembered)) (all_freed_later t tpdos)
