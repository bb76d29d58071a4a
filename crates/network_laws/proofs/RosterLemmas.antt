-- The nodes of a bus by their places: the device and the manager's node at a place have the number of the roster, which
-- no other has; and whose frame is on the wire.
use Rattle.std.proofs.Common.{◌≡◌, ◌≢◌, ℕ, zero, suc, ◌<◌, Bool, true, false, List, [], ◌∷◌, Option, Some, None}
use Rattle.std.proofs.Common.{◌⊎◌, inl, inr, refl, sym, ap, ◌∙◌, subst, arith, map, get_or, length}
use Rattle.std.specs.List.{AllByRecursion}
use Rattle.std.proofs.lemmas.List.{get_or-map, length-map}
use Rattle.network_laws.specs.Requests.{AreOthers, HasManagerFrames as ManagerOwns, IsAlone, IsManagersFrame}
use Rattle.can_frame.specs.ErrorControl.{IsBootUp}
use Rattle.cia301.specs.Limits.{IsNodeNumber}
use Rattle.network_laws.specs.Requests.{numbers_of, requests_to}
use Rattle.bus_devices.specs.Places.{device_at}
use Rattle.can_bus.specs.declared.slot.Slot.{Slot}
use Rattle.can_frame.specs.Frames.{BaseFrame}
use Rattle.can_frame.specs.Identifiers.{sdo_answer_id, sdo_request_id}
use Rattle.can_frame.specs.Senders.{device_sender, manager_sender}
use Rattle.can_frame.specs.WaitingFrames.{is_unwanted}
use Rattle.can_frame.specs.declared.purpose.Purpose.{Purpose}
use Rattle.can_frame.specs.declared.purpose.Purpose.TheVariants.{BootUp, Emergency, Heartbeat, Nmt, Sdo, Sync, Time, Tpdo}
use Rattle.can_frame.specs.declared.unwanted.Unwanted.TheVariants.{SdoOf}
use Rattle.co_device.specs.Device.{Device, without_power}
use Rattle.image_parts.specs.Images.{AllDiffer, IsRoster}
use Rattle.image_parts.specs.declared.roster.Roster.{Roster}
use Rattle.network_laws.specs.Own.{HasOwnFrames as DeviceOwns, IsOwnFrame}
use Rattle.network_laws.proofs.OwnLemmas.{known_at, own_unasked_for}
use Rattle.network_laws.proofs.SendLemmas.{IsForeign, control_foreign, device_foreign, emergency_foreign}
use Rattle.network_laws.proofs.SendLemmas.{manager_foreign, pdo_foreign}
use Rattle.nmt_boot.specs.Manager.{Manager}
use Rattle.manager_nodes.specs.Table.{is_own, no_node, node_at}
use Rattle.manager_nodes.specs.declared.booting.Booting.{Booting}
use Rattle.std.proofs.lemmas.Bool.{cases_eq}
use Rattle.std.proofs.lemmas.Bool.Decides.{nat_tests}
use Rattle.std.specs.Prelude.{◌==◌}

-- ---- numbers that differ

abbrev pub device_numbers : List Device → List ℕ
device_numbers ds = map (λ (d : Device). d.number) ds

apart_from : (a : ℕ) (ns : List ℕ) → AllByRecursion (λ b. a ≢ b) ns → (k : ℕ) → k < length ns → a ≢ get_or ns k 0
apart_from a [] h k l = absurd (omega (arith, l))
apart_from a (n ∷ ns) h zero l = h.0
apart_from a (n ∷ ns) h (suc k) l = apart_from a ns h.1 k (omega (arith, l))

differ_at : (ns : List ℕ) → AllDiffer ns → (k i : ℕ) → k < length ns → i < length ns → get_or ns k 0 ≡ get_or ns i 0
    → k ≡ i
differ_at [] h k i a b e = absurd (omega (arith, a))
differ_at (n ∷ ns) h zero zero a b e = refl
differ_at (n ∷ ns) h zero (suc i) a b e = absurd (apart_from n ns h.0 i (omega (arith, b)) e)
differ_at (n ∷ ns) h (suc k) zero a b e = absurd (apart_from n ns h.0 k (omega (arith, a)) (sym e))
differ_at (n ∷ ns) h (suc k) (suc i) a b e =
    ap suc (differ_at ns h.1 k i (omega (arith, a)) (omega (arith, b)) e)

each_is_node : (ns : List ℕ) → AllByRecursion IsNodeNumber ns → (k : ℕ) → k < length ns → IsNodeNumber (get_or ns k 0)
each_is_node [] h k l = absurd (omega (arith, l))
each_is_node (n ∷ ns) h zero l = h.0
each_is_node (n ∷ ns) h (suc k) l = each_is_node ns h.1 k (omega (arith, l))

each_is_other : (manager : ℕ) (ns : List ℕ) → AreOthers manager ns → (k : ℕ) → k < length ns → get_or ns k 0 ≢ manager
each_is_other manager [] h k l = absurd (omega (arith, l))
each_is_other manager (n ∷ ns) h zero l = h.0
each_is_other manager (n ∷ ns) h (suc k) l = each_is_other manager ns h.1 k (omega (arith, l))

same_number : (a b : ℕ) → (a == b) ≡ true → a ≡ b
same_number a b e = grind (arith, nat_tests)

-- ---- whose frame is on the wire

-- the device of a node and the manager are two senders, and so are the devices of two nodes
pub two_senders : (node manager : ℕ) → device_sender node ≡ manager_sender manager → ⊥
two_senders node manager e = omega (arith, e)

-- one of the manager, or of the device of a node
abbrev pub IsSent : Roster → Slot → Type 0
IsSent roster slot =
    ((slot.sender ≡ manager_sender roster.manager)
    × ((p : Purpose) × IsManagersFrame roster.manager roster.nodes p slot.frame))
    ⊎ ((k : ℕ) × ((slot.sender ≡ device_sender k)
    × (IsNodeNumber k × ((p : Purpose) × IsOwnFrame k p slot.frame))))

abbrev pub IsOwned : Roster → Option Slot → Type 0
IsOwned roster None = Unit {0}
IsOwned roster (Some slot) = IsSent roster slot

-- ---- the bus of a roster

pub record IsOf (roster : Roster) (ds : List Device) (m : Manager) (wire : Option Slot) : Type 0 where
  pub devices : device_numbers ds ≡ roster.nodes
  pub nodes : numbers_of m.nodes ≡ roster.nodes
  pub manager : m.number ≡ roster.manager
  pub device_frames : AllByRecursion DeviceOwns ds
  pub manager_frames : ManagerOwns m
  pub wire_frame : IsOwned roster wire

-- the node at a place
pub record IsAt (roster : Roster) (ds : List Device) (m : Manager) (i n : ℕ) : Type 0 where
  pub within : i < length ds
  pub number : (device_at ds i).number ≡ n
  pub is_number : IsNodeNumber n
  pub others : AreOthers roster.manager roster.nodes → n ≢ roster.manager
  pub unasked : is_own (node_at m.nodes i).stage ≡ true → requests_to n m.waiting ≡ []
  pub alone : IsAlone m.nodes i
  pub listed : (node_at m.nodes i).number ≡ n
  pub only : (k : ℕ) → k < length ds → (device_at ds k).number ≡ n → k ≡ i

module _ (roster : Roster) (is : IsRoster roster) (ds : List Device) (m : Manager) (wire : Option Slot)
    (o : IsOf roster ds m wire) where
  many_devices : length ds ≡ length roster.nodes
  many_devices = sym (length-map ds (λ (d : Device). d.number)) ∙ ap (λ (ns : List ℕ). length ns) o.devices

  many_nodes : length m.nodes ≡ length roster.nodes
  many_nodes = sym (length-map m.nodes (λ (b : Booting). b.number)) ∙ ap (λ (ns : List ℕ). length ns) o.nodes

  device_number : (k : ℕ) → k < length ds → (device_at ds k).number ≡ get_or roster.nodes k 0
  device_number k l =
      sym (get_or-map (λ (d : Device). d.number) ds k (without_power false 0) 0 l)
      ∙ ap (λ (ns : List ℕ). get_or ns k 0) o.devices

  node_number : (k : ℕ) → k < length m.nodes → (node_at m.nodes k).number ≡ get_or roster.nodes k 0
  node_number k l =
      sym (get_or-map (λ (b : Booting). b.number) m.nodes k no_node 0 l)
      ∙ ap (λ (ns : List ℕ). get_or ns k 0) o.nodes

  pub stands_at : (i : ℕ) → i < length ds → IsAt roster ds m i (device_at ds i).number
  stands_at i within =
      let devices = many_devices in
      let nodes = many_nodes in
      let listed : i < length m.nodes = omega (arith, within, devices, nodes) in
      let there : i < length roster.nodes = omega (arith, within, devices) in
      let same : (node_at m.nodes i).number ≡ (device_at ds i).number =
      node_number i listed ∙ sym (device_number i within) in
      record {
        within = within;
        number = refl;
        is_number = subst IsNodeNumber (sym (device_number i within))
            (each_is_node roster.nodes is.nodes i there);
        others = λ h. subst (λ (n : ℕ). n ≢ roster.manager) (sym (device_number i within))
            (each_is_other roster.manager roster.nodes h i there);
        unasked = λ itself. subst (λ (n : ℕ). requests_to n m.waiting ≡ [])
            (sym (same_number (node_at m.nodes i).number m.number
            (sym (known_at m o.manager_frames i listed) ∙ itself)) ∙ same) (own_unasked_for m o.manager_frames);
        alone = record {
          within = listed;
          alone = λ k l e. differ_at roster.nodes is.differ k i (omega (arith, l, nodes)) there
              (sym (node_number k l) ∙ e ∙ node_number i listed);
        };
        listed = same;
        only = λ k l e. differ_at roster.nodes is.differ k i (omega (arith, l, devices)) there
            (sym (device_number k l) ∙ e ∙ device_number i within);
      }

-- ---- a frame on the wire, as a node sees it

-- it is the node's boot-up message, its answer, a request to it, or none of the exchange
pub data Kind (roster : Roster) (n : ℕ) (is : IsNodeNumber n) (slot : Slot) : Type 0 where
  IsItsBootUp : slot.sender ≡ device_sender n → IsBootUp n slot.frame → Kind roster n is slot
  IsItsAnswer : slot.sender ≡ device_sender n → slot.frame.id ≡ sdo_answer_id n → Kind roster n is slot
  IsToIt : slot.sender ≢ device_sender n → slot.sender ≡ manager_sender roster.manager
      → slot.frame.id ≡ sdo_request_id n → Kind roster n is slot
  IsNone : IsForeign n is slot.frame → Kind roster n is slot

module _ (roster : Roster) (n : ℕ) (is : IsNodeNumber n)
    (others : AreOthers roster.manager roster.nodes → n ≢ roster.manager) (slot : Slot)
    (manager : IsNodeNumber roster.manager) where
  abbrev Is : Type 0
  Is = Kind roster n is slot

  own : (p : Purpose) → slot.sender ≡ device_sender n → IsOwnFrame n p slot.frame → Is
  own BootUp e h = IsItsBootUp e (ap (λ (x : BaseFrame). x.id) h, ap (λ (x : BaseFrame). x.bytes) h)
  own Heartbeat e h = IsNone (control_foreign n is n is slot.frame h.0 (λ b. h.1 b.1))
  own (Tpdo k) e h = IsNone (pdo_foreign n is slot.frame h)
  own (Sdo k) e h = IsItsAnswer e h
  own Emergency e h = IsNone (emergency_foreign n is n is slot.frame h)
  own Sync e h = absurd h
  own Time e h = absurd h
  own Nmt e h = absurd h

  of_manager : (p : Purpose) → slot.sender ≡ manager_sender roster.manager
      → IsManagersFrame roster.manager roster.nodes p slot.frame → (b : Bool) → is_unwanted (SdoOf n) p ≡ b → Is
  of_manager p e h false other =
      IsNone (manager_foreign n is roster.manager manager roster.nodes others p slot.frame h other)
  of_manager BootUp e h true other = absurd cc
  of_manager Heartbeat e h true other = absurd cc
  of_manager (Tpdo k) e h true other = absurd h
  of_manager (Sdo k) e h true other =
      IsToIt (λ x. two_senders n roster.manager (sym x ∙ e)) e (h.1.1 ∙ ap sdo_request_id (sym (same k other)))
    where
      same : (j : ℕ) → is_unwanted (SdoOf n) (Sdo j) ≡ true → n ≡ j
      same j x = grind (arith, Rattle.std.proofs.lemmas.Bool.Decides.nat_tests)
  of_manager Emergency e h true other = absurd h
  of_manager Sync e h true other = absurd cc
  of_manager Time e h true other = absurd cc
  of_manager Nmt e h true other = absurd cc

  pub kind_of : IsSent roster slot → Is
  kind_of (inl sent) =
      of_manager sent.1.0 sent.0 sent.1.1 (is_unwanted (SdoOf n) sent.1.0) refl
  kind_of (inr sent) = by (cases_eq sent.0 n)
    where
      by : (sent.0 ≡ n) ⊎ (sent.0 ≢ n) → Is
      by (inl e) = own sent.1.1.1.0 (sent.1.0 ∙ ap device_sender e)
          (subst (λ k. IsOwnFrame k sent.1.1.1.0 slot.frame) e sent.1.1.1.1)
      by (inr other) =
          IsNone (device_foreign n is sent.0 sent.1.1.0 sent.1.1.1.0 slot.frame sent.1.1.1.1 other)

-- ---- a table whose nodes kept their numbers

module _ (before after : List Booting) (i : ℕ) (same : numbers_of after ≡ numbers_of before) where
  as_many : length after ≡ length before
  as_many = sym (length-map after (λ (b : Booting). b.number)) ∙ ap (λ (ns : List ℕ). length ns) same
      ∙ length-map before (λ (b : Booting). b.number)

  number_at : (k : ℕ) → k < length before → (node_at after k).number ≡ (node_at before k).number
  number_at k l =
      let many = as_many in
      sym (get_or-map (λ (b : Booting). b.number) after k no_node 0 (omega (arith, many, l)))
      ∙ ap (λ (ns : List ℕ). get_or ns k 0) same
      ∙ get_or-map (λ (b : Booting). b.number) before k no_node 0 l

  pub number_still : (n : ℕ) → IsAlone before i → (node_at before i).number ≡ n → (node_at after i).number ≡ n
  number_still n own e = number_at i own.within ∙ e

  pub alone_still : IsAlone before i → IsAlone after i
  alone_still own =
      let many = as_many in
      let within = own.within in
      record {
        within = omega (arith, many, within);
        alone = λ k l e. own.alone k (omega (arith, many, l))
            (sym (number_at k (omega (arith, many, l))) ∙ e ∙ number_at i own.within);
      }
