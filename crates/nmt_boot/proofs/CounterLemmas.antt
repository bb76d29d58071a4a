-- What is due periodically waits then; TIME tells the time, and SYNC's counter counts from 1 to its last number, and then from 1 again.
use Rattle.std.proofs.Common.{◌≡◌, ℕ, zero, suc, ◌+◌, ◌-◌, ◌*◌, ◌/◌, ◌%◌, ◌<◌, ◌≤◌, Bool, true, false, List, [], ◌∷◌}
use Rattle.std.proofs.Common.{length, refl, ap, ◌∙◌, subst, arith}
use Rattle.std.specs.Prelude.{◌==◌, Contains, slice_index_or, if◌then◌else◌}
use Rattle.std.specs.List.{AllByRecursion, AllZip}
use Rattle.std.proofs.Math.Nat.{mod-eq_of_lt, mod-lt, mod_self, suc-mod, mul-div_cancel}
use Rattle.std.proofs.lemmas.Bool.Decides.{nat_tests}
use Rattle.base.specs.Moments.{is_due}
use Rattle.can_frame.specs.Frames.{BaseFrame}
use Rattle.can_frame.specs.WaitingFrames.{is_same, waiting, with_latest}
use Rattle.can_frame.specs.declared.purpose.Purpose.{Purpose}
use Rattle.can_frame.specs.declared.purpose.Purpose.TheVariants as purpose
use Rattle.can_frame.specs.declared.waiting.Waiting.{Waiting}
use Rattle.image_parts.specs.declared.roster.Roster.{Roster}
use Rattle.nmt_boot.proofs.BeatLemmas.{all_there, due_at}
use Rattle.nmt_boot.specs.Beats.{HasNumbersOf, IsMultiple, IsOnTime, IsTimed}
use Rattle.nmt_boot.specs.Counter.{IsCounting, sync_with}
use Rattle.nmt_boot.specs.Manager.{Manager, time_outs, timers}
use Rattle.nmt_boot.specs.Periodic.{frame_of, messages_of, period_of, purpose_of, queue_after, queue_after_one}
use Rattle.nmt_boot.specs.Periodic.{sync_frame, sync_number}
use Rattle.nmt_boot.specs.TimeOfDay.{time_frame}
use Rattle.nmt_boot.specs.declared.periodic.Periodic.{Periodic}
use Rattle.nmt_boot.specs.declared.periodic_message.PeriodicMessage.{PeriodicMessage}
use Rattle.nmt_boot.specs.declared.periodic_message.PeriodicMessage.TheVariants.{Time, Sync}

-- ---- the numbers

goes_up : (last j : ℕ) → j % last + 1 < last → suc j % last ≡ j % last + 1
goes_up last j h = suc-mod j last ∙ mod-eq_of_lt {n = suc (j % last)} {m = last} (omega (arith, h)) ∙ omega arith

begins_again : (last j : ℕ) → j % last + 1 ≡ last → suc j % last ≡ 0
begins_again last j h =
    let e : suc (j % last) ≡ last = omega (arith, h) in
    suc-mod j last ∙ ap (λ (n : ℕ). n % last) e ∙ mod_self last

stays_below : (last n : ℕ) → 1 ≤ last → n % last + 1 ≤ last
stays_below last n above = let h = mod-lt n {m = last} (omega (arith, above)) in omega (arith, h)

one_before : (k : ℕ) → 1 ≤ k → k + 1 - 1 ≡ suc (k - 1)
one_before k above = omega (arith, above)

next_of : (last k : ℕ) → 1 ≤ k → sync_number last k < last → sync_number last (k + 1) ≡ sync_number last k + 1
next_of last k above h = ap (λ (n : ℕ). n % last + 1) (one_before k above)
    ∙ ap (λ (n : ℕ). n + 1) (goes_up last (k - 1) h)

again_of : (last k : ℕ) → 1 ≤ k → sync_number last k ≡ last → sync_number last (k + 1) ≡ 1
again_of last k above h = ap (λ (n : ℕ). n % last + 1) (one_before k above)
    ∙ ap (λ (n : ℕ). n + 1) (begins_again last (k - 1) h)

zero_is : (last : ℕ) → 1 ≤ last → 0 % last ≡ 0
zero_is last above = mod-eq_of_lt {n = 0} {m = last} (omega (arith, above))

pub counting : (last : ℕ) → 1 ≤ last → IsCounting last (sync_number last)
counting last above = record {
  first = ap (λ (n : ℕ). n + 1) (zero_is last above);
  next = next_of last;
  again = again_of last;
  within = λ k. stays_below last (k - 1) above;
}

-- ---- what waits

in_more : (ws : List Waiting) (v w : Waiting) → Contains ws w → Contains (v ∷ ws) w
in_more ws v w h = (suc h.0, omega (arith, h.1), h.2)

latest_in : (purpose : Purpose) (frame : BaseFrame) (ws : List Waiting)
    → Contains (with_latest purpose frame ws) (waiting purpose frame)
latest_in purpose frame [] = (0, omega arith, refl)
latest_in purpose frame (w ∷ ws) = by (is_same w.purpose purpose) (latest_in purpose frame ws)
  where
    by : (b : Bool) → Contains (with_latest purpose frame ws) (waiting purpose frame)
        → Contains (if b then waiting purpose frame ∷ ws else w ∷ with_latest purpose frame ws) (waiting purpose frame)
    by true rest = (0, omega arith, refl)
    by false rest = in_more (with_latest purpose frame ws) w (waiting purpose frame) rest

-- another keeps its place
keeps : (purpose : Purpose) (frame : BaseFrame) (w : Waiting) → is_same w.purpose purpose ≡ false → (ws : List Waiting)
    → (k : ℕ) → k < length ws → slice_index_or ws k w ≡ w → Contains (with_latest purpose frame ws) w
keeps purpose frame w other [] k within is = absurd (omega (arith, within))
keeps purpose frame w other (v ∷ ws) zero within is =
    by (is_same v.purpose purpose) (ap (λ (x : Waiting). is_same x.purpose purpose) is ∙ other)
  where
    by : (b : Bool) → b ≡ false
        → Contains (if b then waiting purpose frame ∷ ws else v ∷ with_latest purpose frame ws) w
    by true e = cc
    by false e = (0, omega arith, is)
keeps purpose frame w other (v ∷ ws) (suc k) within is =
    by (is_same v.purpose purpose) (keeps purpose frame w other ws k (omega (arith, within)) is)
  where
    by : (b : Bool) → Contains (with_latest purpose frame ws) w
        → Contains (if b then waiting purpose frame ∷ ws else v ∷ with_latest purpose frame ws) w
    by true rest = (suc k, omega (arith, within), is)
    by false rest = in_more (with_latest purpose frame ws) v w rest

-- messages have a purpose of their own
abbrev HasOwn : Purpose → List PeriodicMessage → Type 0
HasOwn purpose ms = AllByRecursion (λ (m : PeriodicMessage). is_same purpose (purpose_of m) ≡ false) ms

abbrev AreApart : List PeriodicMessage → Type 0
AreApart [] = Unit {0}
AreApart (m ∷ ms) = HasOwn (purpose_of m) ms × AreApart ms

all_apart : (network : Roster) → AreApart (messages_of network)
all_apart network = ((refl, (refl, tt)), ((refl, tt), (tt, tt)))

module _ (network : Roster) (t number : ℕ) where
  others_keep : (w : Waiting) (ms : List PeriodicMessage) (ps : List Periodic) → AllZip (IsTimed network t) ms ps
      → HasOwn w.purpose ms → (ws : List Waiting) → Contains ws w → Contains (queue_after t number ps ws) w
  others_keep w [] [] h own ws c = c
  others_keep w [] (p ∷ ps) h own ws c = absurd h
  others_keep w (m ∷ ms) [] h own ws c = absurd h
  others_keep w (m ∷ ms) (p ∷ ps) h own ws c =
      others_keep w ms ps h.1 own.1 (queue_after_one t number p ws) (by (is_due t p.next))
    where
      by : (b : Bool)
          → Contains (if b
          then with_latest (purpose_of p.message) (frame_of number t p.period p.message) ws else ws) w
      by true = keeps (purpose_of p.message) (frame_of number t p.period p.message) w
          (ap (λ (x : PeriodicMessage). is_same w.purpose (purpose_of x)) h.0.message ∙ own.0) ws c.0 c.1 c.2
      by false = c

  module _ (message : PeriodicMessage) (at : IsMultiple t (period_of network message)) where
    abbrev its_frame : Waiting
    its_frame = waiting (purpose_of message) (frame_of number t (period_of network message) message)

    one_waits : (p : Periodic) → IsTimed network t message p → (ws : List Waiting)
        → Contains (queue_after_one t number p ws) its_frame
    one_waits p h ws =
        let due : is_due t p.next ≡ true = (due_at network t message p h).1 at in
        rw (due, h.period, h.message)
        (latest_in (purpose_of message) (frame_of number t (period_of network message) message) ws)

    waits : (ms : List PeriodicMessage) (ps : List Periodic) → AllZip (IsTimed network t) ms ps → AreApart ms
        → (i : ℕ) → i < length ms → slice_index_or ms i message ≡ message → (ws : List Waiting)
        → Contains (queue_after t number ps ws) its_frame
    waits [] ps h apart i within is ws = absurd (omega (arith, within))
    waits (m ∷ ms) [] h apart i within is ws = absurd h
    waits (m ∷ ms) (p ∷ ps) h apart zero within is ws =
        others_keep its_frame ms ps h.1
        (subst (λ (x : PeriodicMessage). HasOwn (purpose_of x) ms) is apart.0) (queue_after_one t number p ws)
        (one_waits p (subst (λ (x : PeriodicMessage). IsTimed network t x p) is h.0) ws)
    waits (m ∷ ms) (p ∷ ps) h apart (suc i) within is ws =
        waits ms ps h.1 apart.1 i (omega (arith, within)) is (queue_after_one t number p ws)

pub queued : (network : Roster) (t : ℕ) (m : Manager) (message : PeriodicMessage) → IsOnTime network t m
    → HasNumbersOf network message → IsMultiple t (period_of network message)
    → Contains (timers t m).0.waiting
    (waiting (purpose_of message) (frame_of m.number t (period_of network message) message))
unfolding timers time_outs
queued network t m message h has at =
    let one = (all_there network message).1 has in
    waits network t m.number message at (messages_of network) m.periodic h (all_apart network) one.0 one.1 one.2 _

-- ---- TIME

pub time_waits : (network : Roster) (t : ℕ) (m : Manager) → IsOnTime network t m → IsMultiple t network.time_us
    → Contains (timers t m).0.waiting (waiting purpose.Time (time_frame network.first_day t))
unfolding frame_of
time_waits network t m h at = queued network t m (Time network.first_day) h refl at

-- ---- SYNC

sync_waits : (network : Roster) (t : ℕ) (m : Manager) → IsOnTime network t m → IsMultiple t network.sync_us
    → Contains (timers t m).0.waiting (waiting purpose.Sync (sync_frame network.sync_counter (t / network.sync_us)))
unfolding frame_of
sync_waits network t m h at = queued network t m (Sync network.sync_counter) h refl at

without_number : (last k : ℕ) → last ≡ 0 → sync_frame last k ≡ (sync_with []).frame
unfolding sync_frame
without_number last k e = rw e refl

pub without_counter : (network : Roster) (t : ℕ) (m : Manager) → IsOnTime network t m → IsMultiple t network.sync_us
    → network.sync_counter ≡ 0 → Contains (timers t m).0.waiting (sync_with [])
without_counter network t m h at e =
    subst (λ (f : BaseFrame). Contains (timers t m).0.waiting (waiting purpose.Sync f))
    (without_number network.sync_counter (t / network.sync_us) e) (sync_waits network t m h at)

above_zero : (t k p : ℕ) → 1 ≤ t → t ≡ k * p → 1 ≤ p
above_zero t k zero from e = absurd (omega (arith, from, e))
above_zero t k (suc p) from e = omega arith

how_many : (t k p : ℕ) → 1 ≤ t → t ≡ k * p → t / p ≡ k
how_many t k p from e =
    ap (λ (n : ℕ). n / p) e ∙ mul-div_cancel k {n = p} (let h = above_zero t k p from e in omega (arith, h))

not_zero : (n : ℕ) → 1 ≤ n → (n == 0) ≡ false
not_zero n h = grind (arith, nat_tests)

with_number : (last p t k : ℕ) → 1 ≤ last → 1 ≤ t → t ≡ k * p
    → sync_frame last (t / p) ≡ (sync_with (sync_number last k ∷ [])).frame
unfolding sync_frame
with_number last p t k above from e = rw (not_zero last above, how_many t k p from e) refl

pub numbered : (network : Roster) (t k : ℕ) (m : Manager) → IsOnTime network t m → 1 ≤ network.sync_counter → 1 ≤ t
    → t ≡ k * network.sync_us
    → Contains (timers t m).0.waiting (sync_with (sync_number network.sync_counter k ∷ []))
numbered network t k m h above from e =
    subst (λ (f : BaseFrame). Contains (timers t m).0.waiting (waiting purpose.Sync f))
    (with_number network.sync_counter network.sync_us t k above from e) (sync_waits network t m h (from, (k, e)))
