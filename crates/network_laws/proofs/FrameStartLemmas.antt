-- The frame that starts leaves its list, and all else stays.
use Rattle.std.proofs.Common.{◌≡◌, ℕ, zero, suc, ◌+◌, ◌<◌, false, List, [], ◌∷◌, ◌++◌, length, map, get_or, Option}
use Rattle.std.proofs.Common.{Some, None, refl, sym, ap, ◌∙◌, subst, arith}
use Rattle.std.specs.Prelude.{Contains, remove, slice_get, slice_index_or, slice_set}
use Rattle.std.proofs.lemmas.List.Quantifiers.{position-Some}
use Rattle.std.proofs.lemmas.Option.{get_or_from_slice_get, none-some, same_Some, slice_get-get_or, slice_get_within}
use Rattle.can_frame.specs.Winner.{contenders, IsWinner}
use Rattle.can_frame.specs.WaitingFrames.{waiting}
use Rattle.can_frame.specs.declared.contender.Contender.{Contender}
use Rattle.can_frame.specs.declared.purpose.Purpose.TheVariants.{Nmt}
use Rattle.can_frame.specs.declared.waiting.Waiting.{Waiting}
use Rattle.can_frame.proofs.WinnerLemmas.{winner_of-wins}
use Rattle.co_device.specs.Device.{Device, without_power}
use Rattle.nmt_boot.specs.Manager.{Manager}
use Rattle.bus_devices.specs.Senders.{contends_with, sender_place}
use Rattle.bus_devices.specs.Places.{device_at}
use Rattle.can_bus.specs.Bus.{Bus, devices_without_winner, winning_frame, waiting_lists, manager_without_winner}
use Rattle.can_bus.specs.Bus.{slot_of, after_arbitration, after_start_on, with_slot_of, winner}
use Rattle.can_bus.specs.Runs.{StartsWith}
use Rattle.can_bus.specs.declared.slot.Slot.{Slot}
use Rattle.can_bus.proofs.ArbitrationLemmas.{contends_is, manager_contends, none_found, place_within}
use Rattle.network_laws.specs.Starts.{LeavesItsList, but_for_frames}
use Rattle.can_bus.proofs.StartLemmas.{node_is}
use Rattle.can_frame.specs.Senders.{device_sender, manager_sender}

-- ---- the list of one node among the lists of all

abbrev all : ℕ × List Waiting → List Device → List (ℕ × List Waiting)
all last ds = map (λ (d : Device). (device_sender d.number, d.waiting)) ds ++ last ∷ []

module _ (last : ℕ × List Waiting) where
  device_is : (ds : List Device) (i : ℕ) → i < length ds
      → get_or (all last ds) i last ≡ (device_sender (device_at ds i).number, (device_at ds i).waiting)
  device_is [] i h = absurd (omega (arith, h))
  device_is (d ∷ ds) zero h = refl
  device_is (d ∷ ds) (suc i) h = device_is ds i (omega (arith, h))

  one_more : (ds : List Device) → length (all last ds) ≡ length ds + 1
  one_more [] = omega arith
  one_more (d ∷ ds) = let rest = one_more ds in omega (arith, rest)

  device_there : (ds : List Device) (i : ℕ) → i < length ds
      → slice_get (all last ds) i ≡ Some (device_sender (device_at ds i).number, (device_at ds i).waiting)
  device_there ds i h =
      let many = one_more ds in
      slice_get-get_or (all last ds) i last (omega (arith, many, h)) ∙ ap Some (device_is ds i h)

  device_taken : (ds : List Device) (i : ℕ) (e : Device) → i < length ds
      → all last (slice_set ds i e) ≡ slice_set (all last ds) i (device_sender e.number, e.waiting)
  device_taken [] i e h = absurd (omega (arith, h))
  device_taken (d ∷ ds) zero e h = refl
  device_taken (d ∷ ds) (suc i) e h =
      ap (λ (rest : List (ℕ × List Waiting)). (device_sender d.number, d.waiting) ∷ rest) (device_taken ds i e (omega (arith, h)))

  last_is : (ds : List Device) → get_or (all last ds) (length ds) last ≡ last
  last_is [] = refl
  last_is (d ∷ ds) = last_is ds

  last_there : (ds : List Device) → slice_get (all last ds) (length ds) ≡ Some last
  last_there ds =
      let many = one_more ds in
      slice_get-get_or (all last ds) (length ds) last (omega (arith, many)) ∙ ap Some (last_is ds)

  last_taken : (ds : List Device) (next : ℕ × List Waiting) → all next ds ≡ slice_set (all last ds) (length ds) next
  last_taken [] next = refl
  last_taken (d ∷ ds) next = ap (λ (rest : List (ℕ × List Waiting)). (device_sender d.number, d.waiting) ∷ rest) (last_taken ds next)

-- ---- the frame that wins

abbrev waiting_at : List Waiting → ℕ → Waiting
waiting_at frames place = slice_index_or frames place (waiting Nmt (record { id = 0; bytes = [] }))

abbrev sent_waiting : Contender → Option ℕ → List Device → Manager → Waiting
sent_waiting c None ds m = waiting_at m.waiting c.place
sent_waiting c (Some i) ds m = waiting_at (device_at ds i).waiting c.place

abbrev Leaves : Contender → Option ℕ → List Device → Manager → Type 0
Leaves c o ds m = LeavesItsList c (sent_waiting c o ds m) (waiting_lists ds m)
    (waiting_lists (devices_without_winner c o ds) (manager_without_winner c o m))

device_leaves : (c : Contender) (i : ℕ) (ds : List Device) (m : Manager) → Some i ≡ sender_place c ds
    → Leaves c (Some i) ds m
unfolding sender_place
device_leaves c i ds m found =
    let d = device_at ds i in
    let at = position-Some (contends_with c) ds i (without_power false 0) (sym found) in
    let wins = contends_is c d at.1 in
    let its : c.sender ≡ device_sender d.number = node_is (device_sender d.number) d.waiting c wins in
    let last : ℕ × List Waiting = (manager_sender m.number, m.waiting) in
    record {
      number = i;
      frames = d.waiting;
      its_list = rw its (device_there last ds i at.0);
      its_place = slice_get-get_or d.waiting c.place _ (place_within (device_sender d.number) d.waiting c wins);
      left = rw its (device_taken last ds i (record d { waiting = remove d.waiting c.place }) at.0);
    }

manager_leaves : (c : Contender) (ds : List Device) (m : Manager) → None ≡ sender_place c ds → winner ds m ≡ Some c
    → Leaves c None ds m
unfolding sender_place winner
manager_leaves c ds m found e =
    let wins = manager_contends ds m c e (none_found (contends_with c) ds (sym found)) in
    let its : c.sender ≡ manager_sender m.number = node_is (manager_sender m.number) m.waiting c wins in
    let last : ℕ × List Waiting = (manager_sender m.number, m.waiting) in
    record {
      number = length ds;
      frames = m.waiting;
      its_list = rw its (last_there last ds);
      its_place = slice_get-get_or m.waiting c.place _ (place_within (manager_sender m.number) m.waiting c wins);
      left = rw its (last_taken last ds (manager_sender m.number, remove m.waiting c.place));
    }

either_leaves : (c : Contender) (o : Option ℕ) (ds : List Device) (m : Manager) → o ≡ sender_place c ds
    → winner ds m ≡ Some c → Leaves c o ds m
either_leaves c None ds m found e = manager_leaves c ds m found e
either_leaves c (Some i) ds m found e = device_leaves c i ds m found

-- ---- and its slot starts

wins : (ds : List Device) (m : Manager) (c : Contender) → winner ds m ≡ Some c
    → IsWinner (contenders (waiting_lists ds m)) (Some c)
unfolding winner
wins ds m c e = rw e at (winner_of-wins (contenders (waiting_lists ds m)))

pub is_there : {X : Type 0} (xs : List X) (k : ℕ) (x : X) → slice_get xs k ≡ Some x → Contains xs x
is_there xs k x e = (k, slice_get_within xs k x e, get_or_from_slice_get xs k x x e)

sent_is : (c : Contender) (o : Option ℕ) (ds : List Device) (m : Manager)
    → winning_frame c o ds m ≡ (sent_waiting c o ds m).frame
sent_is c None ds m = refl
sent_is c (Some i) ds m = refl

starts_with : (t : ℕ) (s : Bus) (c : Contender) (o : Option ℕ) → winner s.devices s.manager ≡ Some c
    → Leaves c o s.devices s.manager
    → StartsWith t s (slot_of t s.slots s.bit_time c.sender (winning_frame c o s.devices s.manager)) c
    (sent_waiting c o s.devices s.manager)
starts_with t s c o e leaves = record {
  wins = wins s.devices s.manager c e;
  waits = (
    leaves.frames,
    (
      is_there (waiting_lists s.devices s.manager) leaves.number (c.sender, leaves.frames) leaves.its_list,
      leaves.its_place,
    ),
  );
  is = ap (slot_of t s.slots s.bit_time c.sender) (sent_is c o s.devices s.manager);
}

nothing_starts : (wire : Option Slot) (slot : Slot) → wire ≡ None → wire ≡ Some slot → None ≡ Some slot
nothing_starts wire slot e h = sym e ∙ h

started_leaves : (t : ℕ) (s : Bus) (slot : Slot) (o : Option Contender) → winner s.devices s.manager ≡ o → s.wire ≡ None
    → (with_slot_of t o s).wire ≡ Some slot
    → (c : Contender)
    × ((w : Waiting) × (StartsWith t s slot c w
    × LeavesItsList c w (waiting_lists s.devices s.manager)
    (waiting_lists (with_slot_of t o s).devices (with_slot_of t o s).manager)))
started_leaves t s slot None e idle h = absurd (none-some slot (nothing_starts s.wire slot idle h))
started_leaves t s slot (Some c) e idle h =
    let place = sender_place c s.devices in
    let leaves = either_leaves c place s.devices s.manager refl e in (
      c,
      (
        sent_waiting c place s.devices s.manager,
        (rw (sym (same_Some _ slot h)) (starts_with t s c place e leaves), leaves),
      ),
    )

pub a_frame_leaves : (t : ℕ) (s : Bus) (slot : Slot) → s.wire ≡ None → (after_arbitration t s).wire ≡ Some slot
    → (c : Contender)
    × ((w : Waiting) × (StartsWith t s slot c w
    × LeavesItsList c w (waiting_lists s.devices s.manager)
    (waiting_lists (after_arbitration t s).devices (after_arbitration t s).manager)))
unfolding after_arbitration
a_frame_leaves t s slot idle h =
    let here =
    started_leaves t s slot (winner s.devices s.manager) refl idle
    (sym (ap (λ (o : Option Slot). (after_start_on t o s).wire) idle) ∙ h) in
    subst (λ (o : Option Slot). (c : Contender)
    × ((w : Waiting) × (StartsWith t s slot c w
    × LeavesItsList c w (waiting_lists s.devices s.manager)
    (waiting_lists (after_start_on t o s).devices (after_start_on t o s).manager)))) (sym idle) here

-- ---- all else stays

devices_stay : (c : Contender) (o : Option ℕ) (ds : List Device)
    → map (λ (d : Device). record d { waiting = [] }) (devices_without_winner c o ds)
    ≡ map (λ (d : Device). record d { waiting = [] }) ds
devices_stay c None ds = refl
devices_stay c (Some i) [] = refl
devices_stay c (Some zero) (d ∷ ds) = refl
devices_stay c (Some (suc i)) (d ∷ ds) = ap (λ (rest : List Device). record d { waiting = [] } ∷ rest)
    (devices_stay c (Some i) ds)

manager_stays : (c : Contender) (o : Option ℕ) (m : Manager)
    → ◌≡◌ {A = Manager} (record (manager_without_winner c o m) { waiting = [] }) (record m { waiting = [] })
manager_stays c None m = refl
manager_stays c (Some i) m = refl

started_stays : (t : ℕ) (o : Option Contender) (s : Bus) → but_for_frames (with_slot_of t o s) ≡ but_for_frames s
started_stays t None s = refl
started_stays t (Some c) s =
    let place = sender_place c s.devices in
    ap (λ (ds : List Device). record (but_for_frames s) {
      devices = ds;
      manager = record (manager_without_winner c place s.manager) { waiting = [] };
    }) (devices_stay c place s.devices)
    ∙ ap (λ (m : Manager). record (but_for_frames s) { manager = m }) (manager_stays c place s.manager)

start_stays : (t : ℕ) (wire : Option Slot) (s : Bus) → but_for_frames (after_start_on t wire s) ≡ but_for_frames s
start_stays t None s = started_stays t (winner s.devices s.manager) s
start_stays t (Some slot) s = refl

pub all_else_stays : (t : ℕ) (s : Bus) → but_for_frames (after_arbitration t s) ≡ but_for_frames s
unfolding after_arbitration
all_else_stays t s = start_stays t s.wire s
