-- When a TPDO is sent, and what it remembers then.
use Rattle.std.proofs.Common.{◌≡◌, ℕ, zero, suc, ◌+◌, ◌<◌, ◌≤◌, ◌==◌, ◌&&◌, ◌||◌, not, Bool, true, false, List, Option}
use Rattle.std.proofs.Common.{Some, None, IfSome, refl, ap, sym, ◌∙◌, arith}
use Rattle.std.specs.Prelude.{if◌then◌else◌, is_some, nat_le, nat_lt}
use Rattle.std.proofs.lemmas.Bool.Decides.{nat_tests}
use Rattle.base.specs.Moments.{has_come, is_ahead, moment_after}
use Rattle.pdo_rules.specs.declared.communication.Communication.{Communication}
use Rattle.cia301.specs.declared.transmission_type.TransmissionType.{TransmissionType}
use Rattle.cia301.specs.declared.transmission_type.TransmissionType.TheVariants.{Acyclic, Cyclic, EventDriven}
use Rattle.cia301.specs.declared.transmission_type.TransmissionType.TheVariants.{Reserved, OnRequest}
use Rattle.pdo_rules.specs.Sync.{has_counter}
use Rattle.pdo_rules.specs.Tpdo.{Remembered, Turn, acyclic_turn, awaits_start, counted_turn, cyclic_turn, differs}
use Rattle.pdo_rules.specs.Tpdo.{event_moment, event_turn, just_started, without_past_inhibit, later, synced_turn}
use Rattle.pdo_rules.specs.Tpdo.{turn_with_frame, turn_by_type, turn_without_frame}
use Rattle.pdo_rules.specs.declared.sync_seen.SyncSeen.{SyncSeen}

lies_ahead : (t m : ℕ) → t < m → nat_lt t m ≡ true
lies_ahead t m h = grind (arith, nat_tests)

not_come : (t m : ℕ) → t < m → nat_le m t ≡ false
not_come t m h = grind (arith, nat_tests)

-- ---- the turn of an event-driven one, by its test

-- it is sent at t with these bytes
abbrev pub is_wanted_at : ℕ → List ℕ → Remembered → Bool
is_wanted_at t bytes r = not (is_ahead t r.inhibit) && (differs bytes r || has_come t r.event)

-- with its moments set from now
abbrev pub moments_set : Communication → ℕ → Remembered → Remembered
moments_set c t r = record r { inhibit = moment_after t c.inhibit_time; event = event_moment t c }

pub event_unsent : (c : Communication) (t : ℕ) (bytes : List ℕ) (r : Remembered) → is_wanted_at t bytes r ≡ false
    → event_turn c t bytes r ≡ turn_without_frame r
unfolding event_turn
event_unsent c t bytes r e = ap (λ (test : Bool). if test then turn_with_frame bytes (moments_set c t r)
    else turn_without_frame r) e

pub event_sent : (c : Communication) (t : ℕ) (bytes : List ℕ) (r : Remembered) → is_wanted_at t bytes r ≡ true
    → event_turn c t bytes r ≡ turn_with_frame bytes (moments_set c t r)
unfolding event_turn
event_sent c t bytes r e = ap (λ (test : Bool). if test then turn_with_frame bytes (moments_set c t r)
    else turn_without_frame r) e

sent_by_test : (test : Bool) (bytes : List ℕ) (r s : Remembered)
    → (if test then turn_with_frame bytes r else turn_without_frame s).is_sent ≡ test
sent_by_test true bytes r s = refl
sent_by_test false bytes r s = refl

pub event_is_sent : (c : Communication) (t : ℕ) (bytes : List ℕ) (r : Remembered)
    → (event_turn c t bytes r).is_sent ≡ is_wanted_at t bytes r
unfolding event_turn
event_is_sent c t bytes r = sent_by_test (is_wanted_at t bytes r) bytes (moments_set c t r) r

-- ---- the inhibit moment

held_back : (held differ come : Bool) → held ≡ true → (not held && (differ || come)) ≡ false
held_back held differ come h = rw h refl

pub held : (c : Communication) (t m : ℕ) (bytes : List ℕ) (r : Remembered) → r.inhibit ≡ Some m → t < m
    → event_turn c t bytes r ≡ turn_without_frame r
held c t m bytes r e h =
    event_unsent c t bytes r (held_back (is_ahead t r.inhibit) (differs bytes r) (has_come t r.event)
    (ap (is_ahead t) e ∙ lies_ahead t m h))

pub held_by_type : (c : Communication) (seen : Option SyncSeen) (t m : ℕ) (bytes : List ℕ) (r : Remembered) → r.inhibit ≡ Some m
    → t < m
    → turn_by_type (Some EventDriven) c seen t bytes r ≡ turn_without_frame r
unfolding turn_by_type
held_by_type c seen t m bytes r e h = held c t m bytes r e h

-- an inhibit moment that is ahead isn't over
pub still_held : (t m : ℕ) (r : Remembered) → r.inhibit ≡ Some m → t < m → without_past_inhibit t r ≡ r
unfolding without_past_inhibit
still_held t m r e h = rw (e, not_come t m h) refl

-- ---- the moments that are set

test_some : (time : ℕ) → 0 < time → (time == 0) ≡ false
test_some time h = grind (arith, nat_tests)

of_test : (a b : ℕ) (test : Bool) → nat_le a b ≡ test → a ≤ (if test then b else a)
of_test a b true e = grind (arith, nat_tests)
of_test a b false e = omega arith

of_other_test : (a b : ℕ) (test : Bool) → nat_le a b ≡ test → b ≤ (if test then b else a)
of_other_test a b true e = omega arith
of_other_test a b false e = grind (arith, nat_tests)

-- a time that isn't 0 ends later
set_ahead : (t time : ℕ) (none : Bool) → (time == 0) ≡ none
    → IfSome (if none then None else Some (t + time)) (λ m. t < m)
set_ahead t time true e = tt
set_ahead t zero false e = absurd (grind (arith, nat_tests))
set_ahead t (suc time) false e = omega arith

first_not_after : (a b : ℕ) → a ≤ later a b
first_not_after a b = of_test a b (nat_le a b) refl

second_not_after : (a b : ℕ) → b ≤ later a b
second_not_after a b = of_other_test a b (nat_le a b) refl

later_ahead : (t event inhibit : ℕ) (none : Bool) → (event == 0) ≡ none
    → IfSome (if none then None else Some (later (t + event) (t + inhibit))) (λ m. t < m)
later_ahead t event inhibit true e = tt
later_ahead t zero inhibit false e = absurd (grind (arith, nat_tests))
later_ahead t (suc event) inhibit false e = let h = first_not_after (t + suc event) (t + inhibit) in omega (arith, h)

not_before : (t event inhibit : ℕ) (none : Bool)
    → IfSome (if none then None else Some (later (t + event) (t + inhibit))) (λ m. t + inhibit ≤ m)
not_before t event inhibit true = tt
not_before t event inhibit false = second_not_after (t + event) (t + inhibit)

-- what an event-driven TPDO remembers that was sent
module _ (c : Communication) (seen : Option SyncSeen) (t : ℕ) (bytes : List ℕ) (r : Remembered)
    (sends : (turn_by_type (Some EventDriven) c seen t bytes r).is_sent ≡ true) where
  abbrev Now : Remembered
  Now = (turn_by_type (Some EventDriven) c seen t bytes r).remembered

  now_is : Now ≡ record (moments_set c t r) { last = Some bytes }
  unfolding turn_by_type
  now_is = ap (λ turn. turn.remembered) (event_sent c t bytes r (sym (event_is_sent c t bytes r) ∙ sends))

  inhibited : 0 < c.inhibit_time → Now.inhibit ≡ Some (t + c.inhibit_time)
  inhibited h = ap (λ (s : Remembered). s.inhibit) now_is ∙ (rw (test_some c.inhibit_time h) refl)

  pub silent : (next : Option SyncSeen) (u : ℕ) (others : List ℕ) → 0 < c.inhibit_time → u < t + c.inhibit_time
      → turn_by_type (Some EventDriven) c next u others (without_past_inhibit u Now) ≡ turn_without_frame Now
  silent next u others some h =
      ap (turn_by_type (Some EventDriven) c next u others) (still_held u (t + c.inhibit_time) Now (inhibited some) h)
      ∙ held_by_type c next u (t + c.inhibit_time) others Now (inhibited some) h

  pub inhibit_ahead : IfSome Now.inhibit (λ m. t < m)
  inhibit_ahead = rw now_is (set_ahead t c.inhibit_time (c.inhibit_time == 0) refl)

  pub event_ahead : IfSome Now.event (λ m. t < m)
  event_ahead = rw now_is (later_ahead t c.event_time c.inhibit_time (c.event_time == 0) refl)

  pub event_behind_inhibit : IfSome Now.event (λ m. t + c.inhibit_time ≤ m)
  event_behind_inhibit = rw now_is (not_before t c.event_time c.inhibit_time (c.event_time == 0))

-- ---- the bytes that were last queued

module _ (bytes : List ℕ) (last : Option (List ℕ)) where
  last_of : (test : Bool) (r s : Remembered) → s.last ≡ last
      → (if test then turn_with_frame bytes r else turn_without_frame s).remembered.last
      ≡ (if (if test then turn_with_frame bytes r else turn_without_frame s).is_sent then Some bytes else last)
  last_of true r s e = refl
  last_of false r s e = e

counted_last : (n : ℕ) (bytes : List ℕ) (r : Remembered)
    → (counted_turn n bytes r).remembered.last ≡ (if (counted_turn n bytes r).is_sent then Some bytes else r.last)
unfolding counted_turn
counted_last n bytes r = last_of bytes r.last (nat_le n (r.syncs + 1)) (record r { syncs = 0 })
    (record r { syncs = r.syncs + 1 }) refl

synced_last : (n start : ℕ) (seen : SyncSeen) (bytes : List ℕ) (r : Remembered)
    → (synced_turn n start seen bytes r).remembered.last
    ≡ (if (synced_turn n start seen bytes r).is_sent then Some bytes else r.last)
unfolding synced_turn
synced_last n start seen bytes r = by (not (awaits_start start seen r)) (has_counter start seen)
  where
    by : (goes has : Bool)
        → (if goes then counted_turn n bytes r
        else if has then counted_turn n bytes (just_started r) else turn_without_frame r).remembered.last
        ≡ (if (if goes then counted_turn n bytes r
        else if has then counted_turn n bytes (just_started r) else turn_without_frame r).is_sent
        then Some bytes else r.last)
    by true has = counted_last n bytes r
    by false true = counted_last n bytes (just_started r)
    by false false = refl

pub last_is : (transmission : Option TransmissionType) (c : Communication) (seen : Option SyncSeen) (t : ℕ) (bytes : List ℕ)
    (r : Remembered)
    → (turn_by_type transmission c seen t bytes r).remembered.last
    ≡ (if (turn_by_type transmission c seen t bytes r).is_sent then Some bytes else r.last)
unfolding turn_by_type acyclic_turn cyclic_turn event_turn
last_is None c seen t bytes r = refl
last_is (Some Acyclic) c seen t bytes r = last_of bytes r.last (is_some seen && differs bytes r) r r refl
last_is (Some (Cyclic n)) c None t bytes r = refl
last_is (Some (Cyclic n)) c (Some seen) t bytes r = synced_last n c.sync_start seen bytes r
last_is (Some Reserved) c seen t bytes r = refl
last_is (Some OnRequest) c seen t bytes r = refl
last_is (Some EventDriven) c seen t bytes r = last_of bytes r.last (is_wanted_at t bytes r)
    (moments_set c t r) r refl

-- ---- each n-th SYNC

reached_by : (syncs n : ℕ) (a b : Bool) → syncs < n → nat_le n (syncs + 1) ≡ a → (syncs + 1 == n) ≡ b → a ≡ b
reached_by syncs n true true h e f = refl
reached_by syncs n false false h e f = refl
reached_by syncs n true false h e f = absurd (grind (arith, nat_tests))
reached_by syncs n false true h e f = absurd (grind (arith, nat_tests))

reached : (syncs n : ℕ) → syncs < n → nat_le n (syncs + 1) ≡ (syncs + 1 == n)
reached syncs n h = reached_by syncs n (nat_le n (syncs + 1)) (syncs + 1 == n) h refl refl

syncs_of : (test : Bool) (bytes : List ℕ) (r s : Remembered)
    → (if test then turn_with_frame bytes r else turn_without_frame s).remembered.syncs
    ≡ (if test then r.syncs else s.syncs)
syncs_of true bytes r s = refl
syncs_of false bytes r s = refl

pub counted_sent : (n : ℕ) (bytes : List ℕ) (r : Remembered) → r.syncs < n
    → (counted_turn n bytes r).is_sent ≡ (r.syncs + 1 == n)
unfolding counted_turn
counted_sent n bytes r h =
    sent_by_test (nat_le n (r.syncs + 1)) bytes (record r { syncs = 0 }) (record r { syncs = r.syncs + 1 })
    ∙ reached r.syncs n h

pub counted_syncs : (n : ℕ) (bytes : List ℕ) (r : Remembered) → r.syncs < n
    → (counted_turn n bytes r).remembered.syncs ≡ (if r.syncs + 1 == n then 0 else r.syncs + 1)
unfolding counted_turn
counted_syncs n bytes r h =
    syncs_of (nat_le n (r.syncs + 1)) bytes (record r { syncs = 0 }) (record r { syncs = r.syncs + 1 })
    ∙ ap (λ (test : Bool). if test then 0 else r.syncs + 1) (reached r.syncs n h)

module _ (c : Communication) (n t : ℕ) (bytes : List ℕ) (r : Remembered) where
  -- where it waits for no start each SYNC counts
  pub goes_by_count : (seen : SyncSeen) → awaits_start c.sync_start seen r ≡ false
      → turn_by_type (Some (Cyclic n)) c (Some seen) t bytes r ≡ counted_turn n bytes r
  unfolding turn_by_type cyclic_turn synced_turn
  goes_by_count seen e = rw e refl

  pub nth_sent : (seen : SyncSeen) → awaits_start c.sync_start seen r ≡ false → r.syncs < n
      → (turn_by_type (Some (Cyclic n)) c (Some seen) t bytes r).is_sent ≡ (r.syncs + 1 == n)
  nth_sent seen e h = ap (λ (turn : Turn). turn.is_sent) (goes_by_count seen e) ∙ counted_sent n bytes r h

  pub nth_counted : (seen : SyncSeen) → awaits_start c.sync_start seen r ≡ false → r.syncs < n
      → (turn_by_type (Some (Cyclic n)) c (Some seen) t bytes r).remembered.syncs
      ≡ (if r.syncs + 1 == n then 0 else r.syncs + 1)
  nth_counted seen e h = ap (λ (turn : Turn). turn.remembered.syncs) (goes_by_count seen e) ∙ counted_syncs n bytes r h

  pub nth_unsent : turn_by_type (Some (Cyclic n)) c None t bytes r ≡ turn_without_frame r
  unfolding turn_by_type cyclic_turn
  nth_unsent = refl

pub ruleset set_moments = (inhibit_ahead, event_ahead, event_behind_inhibit)

pub ruleset nth_sync = (nth_sent, nth_counted, nth_unsent)
