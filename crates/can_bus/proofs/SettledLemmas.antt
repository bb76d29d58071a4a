-- After an instant no frame waits at an idle wire.
use Rattle.std.proofs.Common.{◌≡◌, ℕ, List, [], ◌∷◌, ◌++◌, length, Option, Some, None, refl, sym, ap, ◌∙◌, arith}
use Rattle.std.proofs.Common.{length-append}
use Rattle.std.specs.Prelude.{All}
use Rattle.std.proofs.lemmas.List.Elements.{All-cons, All-nil}
use Rattle.image_parts.specs.Asking.{outcome}
use Rattle.can_frame.specs.Senders.{device_sender, manager_sender}
use Rattle.can_frame.specs.Winner.{contenders, contenders_of}
use Rattle.can_frame.specs.declared.contender.Contender.{Contender}
use Rattle.can_frame.specs.declared.waiting.Waiting.{Waiting}
use Rattle.can_frame.proofs.WinnerLemmas.{length-contenders_of, winner_of-wins}
use Rattle.co_device.specs.Device.{Device}
use Rattle.image_parts.specs.Contents.{Image}
use Rattle.nmt_boot.specs.Manager.{Manager}
use Rattle.can_bus.specs.Bus.{Bus, ended_slot, from_delivery_on, instant, waiting_lists, nodes_after, open_slot}
use Rattle.can_bus.specs.Bus.{after_arbitration, after_start_on, with_slot_of, winner}
use Rattle.can_bus.specs.Runs.{IsIdle, IsSettled, NoneWaits}
use Rattle.can_bus.specs.declared.slot.Slot.{Slot}
use Rattle.can_bus.proofs.InstantLemmas.{outcome_delivery, outcome_instant, run_by_events}

empty : {X : Type 0} (xs : List X) → length xs ≡ 0 → xs ≡ []
empty [] e = refl
empty (x ∷ xs) e = absurd (omega (arith, e))

-- of two lists that are none together each is none
none_of : {X : Type 0} (xs ys : List X) → xs ++ ys ≡ [] → (length xs ≡ 0) × (length ys ≡ 0)
none_of xs ys e =
    let both : length (xs ++ ys) ≡ 0 = ap length e in
    let all = length-append xs ys in
    (omega (arith, both, all), omega (arith, both, all))

-- where no frame of a node contends, none waits
none_at : (node : ℕ) (frames : List Waiting) → length (contenders_of (node, frames)) ≡ 0 → frames ≡ []
none_at node frames e = empty frames (sym (length-contenders_of node frames) ∙ e)

none_waits : (s : Bus) (ds : List Device) (m : Manager) → contenders (waiting_lists ds m) ≡ []
    → All (λ d. d.waiting ≡ []) ds × (m.waiting ≡ [])
none_waits s [] m e =
    let last : ℕ × List Waiting = (manager_sender m.number, m.waiting) in
    let here = none_of (contenders_of last) (contenders []) e in
    (All-nil (λ (d : Device). d.waiting ≡ []), none_at (manager_sender m.number) m.waiting here.0)
none_waits s (d ∷ ds) m e =
    let own : ℕ × List Waiting = (device_sender d.number, d.waiting) in
    let here = none_of (contenders_of own) (contenders (waiting_lists ds m)) e in
    let rest = none_waits s ds m (empty (contenders (waiting_lists ds m)) here.1) in
    (All-cons (λ (d : Device). d.waiting ≡ []) d ds (none_at (device_sender d.number) d.waiting here.0) rest.0, rest.1)

none_wins : (ds : List Device) (m : Manager) → winner ds m ≡ None → contenders (waiting_lists ds m) ≡ []
unfolding winner
none_wins ds m e = rw e at (winner_of-wins (contenders (waiting_lists ds m)))

started_settles : (t : ℕ) (s : Bus) (o : Option Contender) → winner s.devices s.manager ≡ o
    → IsIdle (with_slot_of t o s).wire → NoneWaits (with_slot_of t o s)
started_settles t s None e idle =
    let none = none_waits s s.devices s.manager (none_wins s.devices s.manager e) in
    record { devices = none.0; manager = none.1 }
started_settles t s (Some c) e idle = absurd idle

not_idle : (wire : Option Slot) (slot : Slot) → wire ≡ Some slot → IsIdle wire → ⊥
not_idle wire slot e h = rw e at h

start_settles : (t : ℕ) (s : Bus) (wire : Option Slot) → s.wire ≡ wire → IsIdle (after_start_on t wire s).wire
    → NoneWaits (after_start_on t wire s)
start_settles t s None e idle = started_settles t s (winner s.devices s.manager) refl idle
start_settles t s (Some slot) e idle = absurd (not_idle s.wire slot e idle)

slot_settles : (t : ℕ) (s : Bus) → IsSettled (after_arbitration t s)
unfolding IsSettled after_arbitration
slot_settles t s = λ idle. start_settles t s s.wire refl idle

delivery_settles : (image : Image) (t : ℕ) (s : Bus) → IsSettled (outcome (from_delivery_on t s) image).0
delivery_settles image t s =
    let q = outcome (nodes_after t (ended_slot t s.wire) s.devices s.manager) image in
    rw outcome_delivery (slot_settles t (record {
      spent = s.spent;
      bit_time = s.bit_time;
      slots = s.slots;
      devices = q.0;
      manager = q.1.0;
      wire = open_slot t s.wire;
      window = s.window;
      steps = s.steps;
    }))

pub instant_settles : (image : Image) (t : ℕ) (s : Bus) → IsSettled (outcome (instant t s) image).0
instant_settles image t s = rw (outcome_instant t s image) (delivery_settles image t (run_by_events t s image))
