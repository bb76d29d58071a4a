-- The SYNC start value of a TPDO.
use Rattle.std.proofs.Common.{◌≡◌, ◌≢◌, ℕ, ◌+◌, ◌<◌, ◌==◌, ◌&&◌, not, Bool, true, false, List, Option, Some, None}
use Rattle.std.proofs.Common.{refl, ap, ◌∙◌, arith}
use Rattle.std.specs.Prelude.{if◌then◌else◌, is_some, nat_le}
use Rattle.std.proofs.lemmas.Bool.Decides.{nat_tests}
use Rattle.pdo_rules.specs.declared.communication.Communication.{Communication}
use Rattle.pdo_rules.specs.declared.sync_seen.SyncSeen.{SyncSeen}
use Rattle.cia301.specs.declared.transmission_type.TransmissionType.{TransmissionType}
use Rattle.cia301.specs.declared.transmission_type.TransmissionType.TheVariants.{Acyclic, Cyclic, EventDriven}
use Rattle.cia301.specs.declared.transmission_type.TransmissionType.TheVariants.{Reserved, OnRequest}
use Rattle.pdo_rules.specs.Sync.{has_counter}
use Rattle.pdo_rules.specs.Tpdo.{Remembered, Turn, acyclic_turn, awaits_start, counted_turn, cyclic_turn, differs}
use Rattle.pdo_rules.specs.Tpdo.{event_turn, just_started, synced_turn, turn_by_type, turn_with_frame, turn_without_frame}
use Rattle.pdo_rules.proofs.TpdoLemmas.{counted_sent, counted_syncs, goes_by_count, is_wanted_at, moments_set}

pub other_number : (a b : ℕ) → a ≢ b → (a == b) ≡ false
other_number a b h = grind (arith, nat_tests)

pub own_number : (a : ℕ) → (a == a) ≡ true
own_number a = grind (arith, nat_tests)

-- ---- what was started stays so

started_by : (test : Bool) (bytes : List ℕ) (r s : Remembered) → r.started ≡ true → s.started ≡ true
    → (if test then turn_with_frame bytes r else turn_without_frame s).remembered.started ≡ true
started_by true bytes r s e f = e
started_by false bytes r s e f = f

counted_started : (n : ℕ) (bytes : List ℕ) (r : Remembered) → r.started ≡ true
    → (counted_turn n bytes r).remembered.started ≡ true
unfolding counted_turn
counted_started n bytes r e = started_by (nat_le n (r.syncs + 1)) bytes (record r { syncs = 0 })
    (record r { syncs = r.syncs + 1 }) e e

awaits_none : (value counted started : Bool) → started ≡ true → (value && counted && not started) ≡ false
awaits_none true true started e = rw e refl
awaits_none true false started e = refl
awaits_none false counted started e = refl

uncounted_awaits_none : (value counted started : Bool) → counted ≡ false → (value && counted && not started) ≡ false
uncounted_awaits_none true counted started e = rw e refl
uncounted_awaits_none false counted started e = refl

module _ (c : Communication) (n t : ℕ) (seen : SyncSeen) (bytes : List ℕ) (r : Remembered) where
  pub counts_without_value : c.sync_start ≡ 0
      → turn_by_type (Some (Cyclic n)) c (Some seen) t bytes r ≡ counted_turn n bytes r
  counts_without_value e = goes_by_count c n t bytes r seen (rw e refl)

  pub counts_uncounted : seen.is_counted ≡ false
      → turn_by_type (Some (Cyclic n)) c (Some seen) t bytes r ≡ counted_turn n bytes r
  counts_uncounted e = goes_by_count c n t bytes r seen
      (uncounted_awaits_none (not (c.sync_start == 0)) seen.is_counted r.started e)

  pub counts_started : r.started ≡ true
      → turn_by_type (Some (Cyclic n)) c (Some seen) t bytes r ≡ counted_turn n bytes r
  counts_started e = goes_by_count c n t bytes r seen
      (awaits_none (not (c.sync_start == 0)) seen.is_counted r.started e)

pub started_lasts : (transmission : Option TransmissionType) (c : Communication) (seen : Option SyncSeen) (t : ℕ)
    (bytes : List ℕ) (r : Remembered) → r.started ≡ true
    → (turn_by_type transmission c seen t bytes r).remembered.started ≡ true
unfolding turn_by_type acyclic_turn cyclic_turn event_turn
started_lasts None c seen t bytes r e = e
started_lasts (Some Acyclic) c seen t bytes r e = started_by (is_some seen && differs bytes r) bytes r r e e
started_lasts (Some (Cyclic n)) c None t bytes r e = e
started_lasts (Some (Cyclic n)) c (Some seen) t bytes r e =
    ap (λ (turn : Turn). turn.remembered.started) (counts_started c n t seen bytes r e) ∙ counted_started n bytes r e
started_lasts (Some Reserved) c seen t bytes r e = e
started_lasts (Some OnRequest) c seen t bytes r e = e
started_lasts (Some EventDriven) c seen t bytes r e = started_by (is_wanted_at t bytes r) bytes (moments_set c t r) r e e

-- ---- the SYNC that is awaited, and others

module _ (c : Communication) (n t : ℕ) (seen : SyncSeen) (bytes : List ℕ) (r : Remembered)
    (awaits : awaits_start c.sync_start seen r ≡ true) where
  waits_on : has_counter c.sync_start seen ≡ false
      → turn_by_type (Some (Cyclic n)) c (Some seen) t bytes r ≡ turn_without_frame r
  unfolding turn_by_type cyclic_turn synced_turn
  waits_on e = rw (awaits, e) refl

  starts_now : has_counter c.sync_start seen ≡ true
      → turn_by_type (Some (Cyclic n)) c (Some seen) t bytes r ≡ counted_turn n bytes (just_started r)
  unfolding turn_by_type cyclic_turn synced_turn
  starts_now e = rw (awaits, e) refl

  pub waits_at_none : seen.counter ≡ None
      → turn_by_type (Some (Cyclic n)) c (Some seen) t bytes r ≡ turn_without_frame r
  waits_at_none e = waits_on (rw e refl)

  own_counter : seen.counter ≡ Some c.sync_start → has_counter c.sync_start seen ≡ true
  own_counter e = rw e (own_number c.sync_start)

  pub start_sent : 0 < n → seen.counter ≡ Some c.sync_start
      → (turn_by_type (Some (Cyclic n)) c (Some seen) t bytes r).is_sent ≡ (1 == n)
  start_sent some e = ap (λ (turn : Turn). turn.is_sent) (starts_now (own_counter e))
      ∙ counted_sent n bytes (just_started r) some

  pub start_counted : 0 < n → seen.counter ≡ Some c.sync_start
      → (turn_by_type (Some (Cyclic n)) c (Some seen) t bytes r).remembered.syncs ≡ (if 1 == n then 0 else 1)
  start_counted some e = ap (λ (turn : Turn). turn.remembered.syncs) (starts_now (own_counter e))
      ∙ counted_syncs n bytes (just_started r) some

  pub start_lasts : seen.counter ≡ Some c.sync_start
      → (turn_by_type (Some (Cyclic n)) c (Some seen) t bytes r).remembered.started ≡ true
  start_lasts e = ap (λ (turn : Turn). turn.remembered.started) (starts_now (own_counter e))
      ∙ counted_started n bytes (just_started r) refl

  pub waits_at_other : (counter : ℕ) → seen.counter ≡ Some counter → counter ≢ c.sync_start
      → turn_by_type (Some (Cyclic n)) c (Some seen) t bytes r ≡ turn_without_frame r
  waits_at_other counter e h = waits_on (rw e (other_number counter c.sync_start h))

pub ruleset waits = (waits_at_other, waits_at_none)

pub ruleset starts = (start_sent, start_counted, start_lasts)

pub ruleset goes_on = (counts_without_value, counts_uncounted, counts_started, started_lasts)
