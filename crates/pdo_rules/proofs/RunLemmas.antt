-- At which SYNCs of a run a cyclic TPDO is sent.
use Rattle.std.proofs.Common.{◌≡◌, ◌≢◌, ℕ, ◌+◌, ◌%◌, ◌<◌, ◌==◌, ◌&&◌, not, Bool, true, false, List, [], ◌∷◌}
use Rattle.std.proofs.Common.{◌++◌, length, map, replicate, Some, refl, ap, sym, ◌∙◌, arith}
use Rattle.std.specs.Prelude.{if◌then◌else◌, nat_le}
use Rattle.std.specs.List.{range_with_len}
use Rattle.std.proofs.Math.Nat.{mod-eq_of_lt, mod-lt, mod_self, suc-mod}
use Rattle.std.proofs.Math.Numerals.{suc-eq-add-one}
use Rattle.std.proofs.lemmas.Bool.Decides.{nat_tests}
use Rattle.pdo_rules.specs.Runs.{HaveNoStart, each_nth, sent_at}
use Rattle.pdo_rules.specs.Sync.{has_counter}
use Rattle.pdo_rules.specs.Tpdo.{Remembered, Turn, awaits_start, counted_turn, just_started, synced_turn}
use Rattle.pdo_rules.specs.Tpdo.{turn_with_frame, turn_without_frame}
use Rattle.pdo_rules.specs.declared.sync_seen.SyncSeen.{SyncSeen}
use Rattle.pdo_rules.proofs.StartLemmas.{other_number, own_number}
use Rattle.pdo_rules.proofs.TpdoLemmas.{counted_sent, counted_syncs}

-- ---- places and what is left of them

one_more : (p n : ℕ) → (p + 1) % n ≡ (p % n + 1) % n
one_more p n = ap (λ (m : ℕ). m % n) (sym (suc-eq-add-one p)) ∙ suc-mod p n
    ∙ ap (λ (m : ℕ). m % n) (suc-eq-add-one (p % n))

all_of_it : (q n : ℕ) → (q + 1 == n) ≡ true → (q + 1) % n ≡ 0
all_of_it q n e =
    let same : q + 1 ≡ n = grind (arith, nat_tests) in
    rw same (mod_self n)

part_of_it : (q n : ℕ) → q < n → (q + 1 == n) ≡ false → (q + 1) % n ≡ q + 1
part_of_it q n h e =
    let below : q + 1 < n = grind (arith, nat_tests) in
    mod-eq_of_lt below

not_none : (q : ℕ) → (q + 1 == 0) ≡ false
not_none q = grind (arith, nat_tests)

divides_by : (q n : ℕ) (test : Bool) → q < n → (q + 1 == n) ≡ test → ((q + 1) % n == 0) ≡ test
divides_by q n true h e = ap (λ (m : ℕ). m == 0) (all_of_it q n e)
divides_by q n false h e = ap (λ (m : ℕ). m == 0) (part_of_it q n h e) ∙ not_none q

-- the place after p is one that n divides exactly where p leaves n - 1
next_divides : (p n : ℕ) → 0 < n → ((p + 1) % n == 0) ≡ (p % n + 1 == n)
next_divides p n some = ap (λ (m : ℕ). m == 0) (one_more p n)
    ∙ divides_by (p % n) n (p % n + 1 == n) (mod-lt p some) refl

left_by : (q n : ℕ) (test : Bool) → q < n → (q + 1 == n) ≡ test → (q + 1) % n ≡ (if test then 0 else q + 1)
left_by q n true h e = all_of_it q n e
left_by q n false h e = part_of_it q n h e

next_left : (p n : ℕ) → 0 < n → (p + 1) % n ≡ (if p % n + 1 == n then 0 else p % n + 1)
next_left p n some = one_more p n ∙ left_by (p % n) n (p % n + 1 == n) (mod-lt p some) refl

-- ---- where the TPDO waits for no start

abbrev WaitsForNone : ℕ → Remembered → Type 0
WaitsForNone start r = (seen : SyncSeen) → awaits_start start seen r ≡ false

started_of : (test : Bool) (bytes : List ℕ) (r s : Remembered) → r.started ≡ s.started
    → (if test then turn_with_frame bytes r else turn_without_frame s).remembered.started ≡ s.started
started_of true bytes r s e = e
started_of false bytes r s e = refl

counted_keeps_started : (n : ℕ) (bytes : List ℕ) (r : Remembered)
    → (counted_turn n bytes r).remembered.started ≡ r.started
unfolding counted_turn
counted_keeps_started n bytes r = started_of (nat_le n (r.syncs + 1)) bytes (record r { syncs = 0 })
    (record r { syncs = r.syncs + 1 }) refl

started_waits_for_none : (valued counted : Bool) → (valued && counted && false) ≡ false
started_waits_for_none true true = refl
started_waits_for_none true false = refl
started_waits_for_none false counted = refl

module _ (n start : ℕ) (some : 0 < n) where
  counts_it : (seen : SyncSeen) (bytes : List ℕ) (r : Remembered) → awaits_start start seen r ≡ false
      → synced_turn n start seen bytes r ≡ counted_turn n bytes r
  unfolding synced_turn
  counts_it seen bytes r e = rw e refl

  waits_for_none : (bytes : List ℕ) (r : Remembered) → WaitsForNone start r
      → WaitsForNone start (counted_turn n bytes r).remembered
  waits_for_none bytes r free seen =
      ap (λ (started : Bool). not (start == 0) && seen.is_counted && not started) (counted_keeps_started n bytes r)
      ∙ free seen

  -- after p SYNCs that counted
  pub sent_from : (p : ℕ) (syncs : List (SyncSeen × List ℕ)) (r : Remembered) → WaitsForNone start r → r.syncs ≡ p % n
      → sent_at n start syncs r ≡ map (λ place. place % n == 0) (range_with_len (p + 1) (length syncs))
  unfolding sent_at
  sent_from p [] r free e = refl
  sent_from p (s ∷ syncs) r free e =
      let below : r.syncs < n = rw e (mod-lt p some) in
      let turn : Turn = synced_turn n start s.0 s.1 r in
      let counts : turn ≡ counted_turn n s.1 r = counts_it s.0 s.1 r (free s.0) in
      let sent : turn.is_sent ≡ ((p + 1) % n == 0) = ap (λ (own : Turn). own.is_sent) counts
      ∙ counted_sent n s.1 r below ∙ ap (λ (m : ℕ). m + 1 == n) e ∙ sym (next_divides p n some) in
      let left : turn.remembered.syncs ≡ (p + 1) % n = ap (λ (own : Turn). own.remembered.syncs) counts
      ∙ counted_syncs n s.1 r below ∙ ap (λ (m : ℕ). if m + 1 == n then 0 else m + 1) e ∙ sym (next_left p n some) in
      let on : WaitsForNone start turn.remembered = rw counts (waits_for_none s.1 r free) in
      ap (λ (first : Bool). first ∷ sent_at n start syncs turn.remembered) sent
      ∙ ap (λ (rest : List Bool). ((p + 1) % n == 0) ∷ rest) (sent_from (p + 1) syncs turn.remembered on left)

  -- ---- where it waits for its start

  waits_once_more : (seen : SyncSeen) (bytes : List ℕ) (r : Remembered) → awaits_start start seen r ≡ true
      → has_counter start seen ≡ false → synced_turn n start seen bytes r ≡ turn_without_frame r
  unfolding synced_turn
  waits_once_more seen bytes r e h = rw (e, h) refl

  starts_there : (seen : SyncSeen) (bytes : List ℕ) (r : Remembered) → awaits_start start seen r ≡ true
      → has_counter start seen ≡ true → synced_turn n start seen bytes r ≡ counted_turn n bytes (just_started r)
  unfolding synced_turn
  starts_there seen bytes r e h = rw (e, h) refl

  from_nothing : (syncs : List (SyncSeen × List ℕ)) (r : Remembered) → WaitsForNone start r → r.syncs ≡ 0
      → sent_at n start syncs r ≡ each_nth n (length syncs)
  from_nothing syncs r free e = sent_from 0 syncs r free (e ∙ sym (mod-eq_of_lt some))

  module _ (valued : start ≢ 0) where
    awaits : (seen : SyncSeen) (r : Remembered) → seen.is_counted ≡ true → r.started ≡ false
        → awaits_start start seen r ≡ true
    awaits seen r counted unstarted = rw (other_number start 0 valued, counted, unstarted) refl

    none_sent : (before rest : List (SyncSeen × List ℕ)) (r : Remembered) → r.started ≡ false
        → HaveNoStart start before
        → sent_at n start (before ++ rest) r ≡ replicate (length before) false ++ sent_at n start rest r
    unfolding sent_at
    none_sent [] rest r unstarted h = refl
    none_sent (s ∷ before) rest r unstarted h =
        ap (λ (turn : Turn). turn.is_sent ∷ sent_at n start (before ++ rest) turn.remembered)
        (waits_once_more s.0 s.1 r (awaits s.0 r h.0.0 unstarted) h.0.1)
        ∙ ap (λ (sent : List Bool). false ∷ sent) (none_sent before rest r unstarted h.1)

    just_started_waits_for_none : (r : Remembered) → WaitsForNone start (just_started r)
    just_started_waits_for_none r seen = started_waits_for_none (not (start == 0)) seen.is_counted

    as_started : (first : SyncSeen × List ℕ) (after : List (SyncSeen × List ℕ)) (r : Remembered) → r.started ≡ false
        → first.0.is_counted ≡ true → first.0.counter ≡ Some start
        → sent_at n start (first ∷ after) r ≡ sent_at n start (first ∷ after) (just_started r)
    unfolding sent_at
    as_started first after r unstarted counted e =
        ap (λ (turn : Turn). turn.is_sent ∷ sent_at n start after turn.remembered)
        (starts_there first.0 first.1 r (awaits first.0 r counted unstarted) (rw e (own_number start))
        ∙ sym (counts_it first.0 first.1 (just_started r) (just_started_waits_for_none r first.0)))

    pub sent_from_the_start : (before after : List (SyncSeen × List ℕ)) (first : SyncSeen × List ℕ) (r : Remembered)
        → r.started ≡ false → HaveNoStart start before → first.0.is_counted ≡ true → first.0.counter ≡ Some start
        → sent_at n start (before ++ first ∷ after) r
        ≡ replicate (length before) false ++ each_nth n (length (first ∷ after))
    sent_from_the_start before after first r unstarted none counted e =
        none_sent before (first ∷ after) r unstarted none
        ∙ ap (λ (sent : List Bool). replicate (length before) false ++ sent)
        (as_started first after r unstarted counted e
        ∙ from_nothing (first ∷ after) (just_started r) (just_started_waits_for_none r) refl)

pub sent_without_value : (n : ℕ) (syncs : List (SyncSeen × List ℕ)) (r : Remembered) → 0 < n → r.syncs ≡ 0
    → sent_at n 0 syncs r ≡ each_nth n (length syncs)
sent_without_value n syncs r some e = from_nothing n 0 some syncs r (λ seen. refl) e

pub ruleset runs = (sent_from_the_start, sent_without_value)
