-- The slot that starts is that of the winner.
use Rattle.std.proofs.Common.{◌≡◌, false, ℕ, zero, suc, ◌<◌, List, [], ◌∷◌, length, map, get_or, Option, Some, None}
use Rattle.std.proofs.Common.{refl, sym, ap, ◌∙◌, arith}
use Rattle.std.specs.Prelude.{Contains, slice_index_or}
use Rattle.std.proofs.lemmas.List.Elements.{Contains-append_left, Contains-append_right}
use Rattle.std.proofs.lemmas.Option.{none-some, same_Some, slice_get-get_or}
use Rattle.can_frame.specs.Senders.{device_sender, manager_sender}
use Rattle.can_frame.specs.Winner.{contenders, contenders_of, winner_of, IsWinner, WaitsAt}
use Rattle.can_frame.specs.WaitingFrames.{waiting}
use Rattle.can_frame.specs.declared.contender.Contender.{Contender}
use Rattle.can_frame.specs.declared.purpose.Purpose.TheVariants.{Nmt}
use Rattle.can_frame.specs.declared.waiting.Waiting.{Waiting}
use Rattle.can_frame.proofs.WinnerLemmas.{contender_at, length-contenders_of, winner_of-wins}
use Rattle.co_device.specs.Device.{Device, without_power}
use Rattle.nmt_boot.specs.Manager.{Manager}
use Rattle.bus_devices.specs.Senders.{contends_with, sender_place}
use Rattle.bus_devices.specs.Places.{device_at}
use Rattle.can_bus.specs.Bus.{Bus, winning_frame, waiting_lists, slot_of, after_arbitration, after_start_on}
use Rattle.can_bus.specs.Bus.{with_slot_of, winner}
use Rattle.can_bus.specs.Runs.{StartsWith}
use Rattle.can_bus.specs.declared.slot.Slot.{Slot}
use Rattle.can_bus.proofs.ArbitrationLemmas.{contends_is, manager_contends, none_found, place_within}
use Rattle.std.proofs.lemmas.List.Quantifiers.{position-Some}

abbrev waiting_at : List Waiting → ℕ → Waiting
waiting_at frames place = slice_index_or frames place (waiting Nmt (record { id = 0; bytes = [] }))

-- the winner of a sender's list is of that sender
pub node_is : (node : ℕ) (frames : List Waiting) (c : Contender) → winner_of (contenders_of (node, frames)) ≡ Some c
    → c.sender ≡ node
node_is node frames c e =
    let wins : IsWinner (contenders_of (node, frames))
    (Some c) = rw e at (winner_of-wins (contenders_of (node, frames))) in
    let k = wins.0.0 in
    let many = length-contenders_of node frames in
    let within : k < length frames = omega (arith, wins.0.1) in
    ap (λ (d : Contender). d.sender) (sym wins.0.2 ∙ contender_at node frames k c within)

waits_there : (all : List (ℕ × List Waiting)) (node : ℕ) (frames : List Waiting) (c : Contender)
    → winner_of (contenders_of (node, frames)) ≡ Some c → Contains all (node, frames)
    → WaitsAt all c.sender c.place (waiting_at frames c.place)
waits_there all node frames c e there =
    (frames, (rw (node_is node frames c e) there, slice_get-get_or frames c.place _ (place_within node frames c e)))

-- ---- the lists of devices and manager

device_list : (ds : List Device) (i : ℕ) (d : Device) → i < length ds
    → Contains {X = ℕ × List Waiting} (map (λ d. (device_sender d.number, d.waiting)) ds)
    (device_sender (get_or ds i d).number, (get_or ds i d).waiting)
device_list [] i d h = absurd (omega (arith, h))
device_list (x ∷ ds) zero d h = (0, omega arith, refl)
device_list (x ∷ ds) (suc i) d h =
    let rest = device_list ds i d (omega (arith, h)) in
    (suc rest.0, omega (arith, rest.1), rest.2)

has_device : (ds : List Device) (m : Manager) (i : ℕ) (d : Device) → i < length ds
    → Contains (waiting_lists ds m) (device_sender (get_or ds i d).number, (get_or ds i d).waiting)
has_device ds m i d h =
    let of : List (ℕ × List Waiting) = map (λ d. (device_sender d.number, d.waiting)) ds in
    Contains-append_left of ((manager_sender m.number, m.waiting) ∷ []) (device_sender (get_or ds i d).number, (get_or ds i d).waiting)
    (device_list ds i d h)

has_manager : (ds : List Device) (m : Manager) → Contains (waiting_lists ds m) (manager_sender m.number, m.waiting)
has_manager ds m =
    let of : List (ℕ × List Waiting) = map (λ d. (device_sender d.number, d.waiting)) ds in
    Contains-append_right of ((manager_sender m.number, m.waiting) ∷ []) (manager_sender m.number, m.waiting) (0, omega arith, refl)

-- ---- the slot

wins : (ds : List Device) (m : Manager) (c : Contender) → winner ds m ≡ Some c
    → IsWinner (contenders (waiting_lists ds m)) (Some c)
unfolding winner
wins ds m c e = rw e at (winner_of-wins (contenders (waiting_lists ds m)))

by_device : (t : ℕ) (s : Bus) (c : Contender) (i : ℕ) → Some i ≡ sender_place c s.devices
    → winner s.devices s.manager ≡ Some c
    → StartsWith t s (slot_of t s.slots s.bit_time c.sender (winning_frame c (Some i) s.devices s.manager)) c
    (waiting_at (device_at s.devices i).waiting c.place)
unfolding sender_place
by_device t s c i found e =
    let d = device_at s.devices i in
    let at = position-Some (contends_with c) s.devices i (without_power false 0) (sym found) in
    record {
      wins = wins s.devices s.manager c e;
      waits = waits_there (waiting_lists s.devices s.manager) (device_sender d.number) d.waiting c (contends_is c d at.1)
          (has_device s.devices s.manager i (without_power false 0) at.0);
      is = refl;
    }

by_manager : (t : ℕ) (s : Bus) (c : Contender) → None ≡ sender_place c s.devices → winner s.devices s.manager ≡ Some c
    → StartsWith t s (slot_of t s.slots s.bit_time c.sender (winning_frame c None s.devices s.manager)) c
    (waiting_at s.manager.waiting c.place)
unfolding sender_place winner
by_manager t s c found e =
    let m = s.manager in
    record {
      wins = wins s.devices m c e;
      waits = waits_there (waiting_lists s.devices m) (manager_sender m.number) m.waiting c
          (manager_contends s.devices m c e (none_found (contends_with c) s.devices (sym found)))
          (has_manager s.devices m);
      is = refl;
    }

-- which frame it is
abbrev sent_waiting : Contender → Option ℕ → Bus → Waiting
sent_waiting c None s = waiting_at s.manager.waiting c.place
sent_waiting c (Some i) s = waiting_at (device_at s.devices i).waiting c.place

by_either : (t : ℕ) (s : Bus) (c : Contender) (o : Option ℕ) → o ≡ sender_place c s.devices
    → winner s.devices s.manager ≡ Some c
    → StartsWith t s (slot_of t s.slots s.bit_time c.sender (winning_frame c o s.devices s.manager)) c (sent_waiting c o s)
by_either t s c None found e = by_manager t s c found e
by_either t s c (Some i) found e = by_device t s c i found e

nothing_starts : (wire : Option Slot) (slot : Slot) → wire ≡ None → wire ≡ Some slot → None ≡ Some slot
nothing_starts wire slot e h = sym e ∙ h

started_slot : (t : ℕ) (s : Bus) (slot : Slot) (o : Option Contender) → winner s.devices s.manager ≡ o → s.wire ≡ None
    → (with_slot_of t o s).wire ≡ Some slot → (c : Contender) × ((w : Waiting) × StartsWith t s slot c w)
started_slot t s slot None e idle h = absurd (none-some slot (nothing_starts s.wire slot idle h))
started_slot t s slot (Some c) e idle h =
    let place = sender_place c s.devices in
    (c, (sent_waiting c place s, rw (sym (same_Some _ slot h)) (by_either t s c place refl e)))

pub slot_is_winners : (t : ℕ) (s : Bus) (slot : Slot) → s.wire ≡ None → (after_arbitration t s).wire ≡ Some slot
    → (c : Contender) × ((w : Waiting) × StartsWith t s slot c w)
unfolding after_arbitration
slot_is_winners t s slot idle h =
    started_slot t s slot (winner s.devices s.manager) refl idle
    (sym (ap (λ (o : Option Slot). (after_start_on t o s).wire) idle) ∙ h)
