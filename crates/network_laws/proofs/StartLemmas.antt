-- The exchanges with all nodes of a bus, where a slot starts.
use Rattle.std.proofs.Common.{◌≡◌, ◌≢◌, ℕ, zero, suc, ◌<◌, Bool, true, false, List, [], ◌∷◌, Option, Some, None}
use Rattle.std.proofs.Common.{◌⊎◌, inl, inr, refl, sym, ap, ◌∙◌, subst, arith, get_or, length}
use Rattle.std.specs.Prelude.{◌||◌, cond, filter, nat_lt, remove, slice_set}
use Rattle.std.specs.List.{AllByRecursion}
use Rattle.std.proofs.lemmas.Bool.Decides.{nat_tests}
use Rattle.std.proofs.lemmas.List.{get_or-map, get_or-set_other, get_or-set_same, length-set}
use Rattle.std.proofs.lemmas.List.Elements.{All-get_or}
use Rattle.std.proofs.lemmas.List.Quantifiers.{position-Some}
use Rattle.network_laws.proofs.OwnLemmas.{sent_owns as manager_sent_owns}
use Rattle.network_laws.specs.Requests.{IsManagersFrame, numbers_of, requests_to}
use Rattle.bus_devices.specs.Senders.{contends_with, sender_place}
use Rattle.bus_devices.specs.Places.{device_at}
use Rattle.can_bus.specs.Bus.{Bus, after_arbitration, after_start_on, slot_of, winner, with_slot_of}
use Rattle.can_bus.specs.Bus.{devices_without_winner, manager_without_winner, winning_frame}
use Rattle.can_bus.specs.declared.slot.Slot.{Slot}
use Rattle.can_bus.proofs.ArbitrationLemmas.{contends_is, manager_contends, none_found, place_within}
use Rattle.can_frame.specs.Frames.{BaseFrame}
use Rattle.can_frame.specs.declared.slot_rule.SlotRule.{SlotRule}
use Rattle.can_frame.specs.Identifiers.{error_control_id, sdo_answer_id, sdo_request_id}
use Rattle.can_frame.specs.Senders.{device_sender, manager_sender}
use Rattle.can_frame.specs.WaitingFrames.{is_unwanted, waiting}
use Rattle.can_frame.specs.Winner.{IsWinner, contenders_of, is_below, winner_of}
use Rattle.can_frame.specs.declared.contender.Contender.{Contender}
use Rattle.can_frame.specs.declared.purpose.Purpose.{Purpose}
use Rattle.can_frame.specs.declared.purpose.Purpose.TheVariants.{BootUp, Emergency, Heartbeat, Nmt, Sdo, Sync, Time, Tpdo}
use Rattle.can_frame.specs.declared.unwanted.Unwanted.TheVariants.{SdoOf, Sdos}
use Rattle.can_frame.specs.declared.waiting.Waiting.{Waiting}
use Rattle.can_frame.proofs.WinnerLemmas.{contender_at, length-contenders_of, winner_of-wins}
use Rattle.co_device.specs.Device.{Device, without_power}
use Rattle.image_parts.specs.Contents.{Image}
use Rattle.image_parts.specs.Images.{IsRoster}
use Rattle.image_parts.specs.declared.roster.Roster.{Roster}
use Rattle.network_laws.specs.Own.{HasOwnFrames as DeviceOwns, IsOwnFrame}
use Rattle.network_laws.specs.Leaves.{answers_of}
use Rattle.network_laws.specs.Marks.{MarkedEntries}
use Rattle.network_laws.proofs.GoodLemmas.{IsGood}
use Rattle.network_laws.proofs.Others.{sent_owns}
use Rattle.network_laws.proofs.RosterLemmas.{IsAt, device_numbers, stands_at}
use Rattle.network_laws.proofs.SendLemmas.{device_foreign, foreign_starts, manager_foreign}
use Rattle.network_laws.proofs.SendLemmas.{managers_starts, own_starts, request_starts}
use Rattle.network_laws.proofs.TurnLemmas.{Ex}
use Rattle.nmt_boot.specs.Manager.{Manager}
use Rattle.manager_nodes.specs.Table.{node_at}
use Rattle.std.proofs.lemmas.Bool.{cases_eq}
use Rattle.can_bus.proofs.StartLemmas.{node_is}

abbrev none : Waiting
none = waiting Nmt (record { id = 0; bytes = [] })

-- ---- the winner of a list

module _ (node : ℕ) (frames : List Waiting) (c : Contender)
    (e : winner_of (contenders_of (node, frames)) ≡ Some c) where
  abbrev cs : List Contender
  cs = contenders_of (node, frames)

  abbrev wins : IsWinner cs (Some c)
  wins = subst (IsWinner cs) e (winner_of-wins cs)

  many : length cs ≡ length frames
  many = length-contenders_of node frames

  id_at : (k : ℕ) → k < length frames → (get_or cs k c).id ≡ (get_or frames k none).frame.id
  id_at k within =
      ap (λ (d : Contender). d.id) (contender_at node frames k c within)
      ∙ get_or-map (λ (w : Waiting). w.frame.id) frames k none 0 within

  its_place : (wins.0.0) ≡ c.place
  its_place =
      let all = many in
      let at = wins.0.1 in
      let within : wins.0.0 < length frames = omega (arith, all, at) in
      ap (λ (d : Contender). d.place) (sym (contender_at node frames wins.0.0 c within) ∙ wins.0.2)

  its_id : c.id ≡ (get_or frames c.place none).frame.id
  its_id =
      let all = many in
      let at = wins.0.1 in
      let within : wins.0.0 < length frames = omega (arith, all, at) in
      ap (λ (d : Contender). d.id) (sym wins.0.2) ∙ id_at wins.0.0 within
      ∙ ap (λ (k : ℕ). (get_or frames k none).frame.id) its_place

  not_less : (a b : ℕ) (rest : Bool) → (nat_lt a b || rest) ≡ false → a < b → ⊥
  not_less a b rest h l = by (nat_lt a b) refl h
    where
      less : nat_lt a b ≡ false → ⊥
      less f = grind (arith, nat_tests)

      by : (x : Bool) → nat_lt a b ≡ x → (x || rest) ≡ false → ⊥
      by true f g = absurd cc
      by false f g = less f

  pub none_lower : (k : ℕ) → k < length frames
      → (get_or frames k none).frame.id < (get_or frames c.place none).frame.id → ⊥
  none_lower k within l =
      let all = many in
      let here = id_at k within in
      let its = its_id in
      not_less (get_or cs k c).id c.id _
      (All-get_or (λ (d : Contender). is_below d c ≡ false) cs k c (omega (arith, all, within)) wins.1)
      (omega (arith, here, its, l))

none_of : (p : Waiting → Bool) (ws : List Waiting) → ((k : ℕ) → k < length ws → p (get_or ws k none) ≡ false)
    → filter p ws ≡ []
none_of p [] h = refl
none_of p (w ∷ ws) h =
    ap (λ (b : Bool). cond b (w ∷ filter p ws) (filter p ws)) (h 0 (omega arith))
    ∙ none_of p ws (λ k l. h (suc k) (omega (arith, l)))

-- while a boot-up message wins, no answer waits
module _ (d : Device) (own : DeviceOwns d) (c : Contender)
    (e : winner_of (contenders_of (device_sender d.number, d.waiting)) ≡ Some c) where
  abbrev sent : Waiting
  sent = get_or d.waiting c.place none

  within : c.place < length d.waiting
  within = place_within (device_sender d.number) d.waiting c e

  own_at : (k : ℕ) → k < length d.waiting
      → IsOwnFrame d.number (get_or d.waiting k none).purpose (get_or d.waiting k none).frame
  own_at k l = All-get_or (λ (w : Waiting). IsOwnFrame d.number w.purpose w.frame) d.waiting k none l own.frames

  boot_id : sent.purpose ≡ BootUp → sent.frame.id ≡ error_control_id d.number
  boot_id is = ap (λ (x : BaseFrame). x.id)
      (subst (λ (p : Purpose). IsOwnFrame d.number p sent.frame) is (own_at c.place within))

  no_answer : sent.purpose ≡ BootUp → (k : ℕ) → k < length d.waiting
      → (p : Purpose) → (get_or d.waiting k none).purpose ≡ p → is_unwanted Sdos p ≡ false
  no_answer is k l BootUp f = refl
  no_answer is k l Heartbeat f = refl
  no_answer is k l (Tpdo j) f = refl
  no_answer is k l (Sdo j) f =
      absurd (none_lower (device_sender d.number) d.waiting c e k l
      (lower (subst (λ (p : Purpose). IsOwnFrame d.number p (get_or d.waiting k none).frame) f (own_at k l))
      (boot_id is)))
    where
      lower : (get_or d.waiting k none).frame.id ≡ sdo_answer_id d.number
          → sent.frame.id ≡ error_control_id d.number
          → (get_or d.waiting k none).frame.id < sent.frame.id
      lower a b = omega (arith, a, b)
  no_answer is k l Emergency f = refl
  no_answer is k l Sync f = refl
  no_answer is k l Time f = refl
  no_answer is k l Nmt f = refl

  pub boot_up_silent : sent.purpose ≡ BootUp → answers_of d.waiting ≡ []
  unfolding answers_of
  boot_up_silent is =
      none_of (λ (w : Waiting). is_unwanted Sdos w.purpose) d.waiting
      (λ k l. no_answer is k l (get_or d.waiting k none).purpose refl)

-- ---- one device of the list

set_numbers : (ds : List Device) (j : ℕ) (ws : List Waiting)
    → device_numbers (slice_set ds j (record (device_at ds j) { waiting = ws })) ≡ device_numbers ds
set_numbers [] j ws = refl
set_numbers (d ∷ ds) zero ws = refl
set_numbers (d ∷ ds) (suc j) ws = ap (λ (ns : List ℕ). d.number ∷ ns) (set_numbers ds j ws)

set_owns : (ds : List Device) (j : ℕ) (place : ℕ) → AllByRecursion DeviceOwns ds
    → AllByRecursion DeviceOwns (slice_set ds j (record (device_at ds j) {
      waiting = remove (device_at ds j).waiting place;
    }))
set_owns [] j place h = tt
set_owns (d ∷ ds) zero place h = (sent_owns place d h.0, h.1)
set_owns (d ∷ ds) (suc j) place h = (h.0, set_owns ds j place h.1)

owns_at : (ds : List Device) (j : ℕ) → j < length ds → AllByRecursion DeviceOwns ds → DeviceOwns (device_at ds j)
owns_at [] j l h = absurd (omega (arith, l))
owns_at (d ∷ ds) zero l h = h.0
owns_at (d ∷ ds) (suc j) l h = owns_at ds j (omega (arith, l)) h.1

is_request : (manager : ℕ) (nodes : List ℕ) (n : ℕ) (p : Purpose) (frame : BaseFrame)
    → IsManagersFrame manager nodes p frame → is_unwanted (SdoOf n) p ≡ true → frame.id ≡ sdo_request_id n
is_request manager nodes n BootUp frame h e = absurd cc
is_request manager nodes n Heartbeat frame h e = absurd cc
is_request manager nodes n (Tpdo j) frame h e = absurd h
is_request manager nodes n (Sdo j) frame h e = h.1.1 ∙ ap sdo_request_id (sym same)
  where
    same : n ≡ j
    same = grind (arith, nat_tests)
is_request manager nodes n Emergency frame h e = absurd h
is_request manager nodes n Sync frame h e = absurd cc
is_request manager nodes n Time frame h e = absurd cc
is_request manager nodes n Nmt frame h e = absurd cc

not_found : (c : Contender) (ds : List Device) → sender_place c ds ≡ None → (k : ℕ) (d : Device) → k < length ds
    → contends_with c (get_or ds k d) ≡ false
unfolding sender_place
not_found c ds e k d l = none_found (contends_with c) ds e k d l

-- ---- the bus

module _ (image : Image) (roster : Roster) (is : IsRoster roster) where
  abbrev Good : MarkedEntries → List Device → Manager → Option Slot → Type 0
  Good marks ds m wire = IsGood image roster marks ds m wire

  module _ (marks : MarkedEntries) (ds : List Device) (m : Manager) (g : Good marks ds m None) (t : ℕ) (rule : SlotRule)
      (bit : ℕ) (c : Contender) where
    -- the frame of a device starts
    module _ (j : ℕ) (found : Some j ≡ sender_place c ds) where
      abbrev d : Device
      d = device_at ds j

      abbrev w : Waiting
      w = get_or d.waiting c.place none

      abbrev slot : Slot
      slot = slot_of t rule bit c.sender w.frame

      there : (j < length ds) × (contends_with c d ≡ true)
      unfolding sender_place
      there =
          let at = position-Some (contends_with c) ds j (without_power false 0) (sym found) in (at.0, at.1)

      wins_list : winner_of (contenders_of (device_sender d.number, d.waiting)) ≡ Some c
      wins_list = contends_is c d there.1

      its_node : c.sender ≡ device_sender d.number
      its_node = node_is (device_sender d.number) d.waiting c wins_list

      owns : DeviceOwns d
      owns = owns_at ds j there.0 g.sound.device_frames

      at_j : IsAt roster ds m j d.number
      at_j = stands_at roster is ds m None g.sound j there.0

      abbrev left : List Device
      left = slice_set ds j (record d { waiting = remove d.waiting c.place })

      own_frame : IsOwnFrame d.number w.purpose w.frame
      own_frame = own_at d owns c wins_list c.place (within d owns c wins_list)

      starts_here : Ex image d.number (marks d.number) (record d { waiting = remove d.waiting c.place }) m j (Some slot)
      starts_here =
          own_starts image d.number at_j.is_number (marks d.number) d (node_at m.nodes j).stage
          (requests_to d.number m.waiting) slot c.place none (within d owns c wins_list) own_frame refl
          (boot_up_silent d owns c wins_list) (g.exchanges j there.0)

      starts_elsewhere : (i : ℕ) → i < length ds → i ≢ j
          → Ex image (device_at ds i).number (marks (device_at ds i).number) (device_at ds i) m i (Some slot)
      starts_elsewhere i l other =
          let at = stands_at roster is ds m None g.sound i l in
          foreign_starts image (device_at ds i).number at.is_number (marks (device_at ds i).number) (device_at ds i)
          (node_at m.nodes i).stage slot
          (device_foreign (device_at ds i).number at.is_number d.number at_j.is_number w.purpose w.frame own_frame
          (λ same. other (sym (at.only j there.0 same))))
          (requests_to (device_at ds i).number m.waiting) (g.exchanges i l)

      sends : (i : ℕ) → i < length left
          → Ex image (device_at left i).number (marks (device_at left i).number) (device_at left i) m i (Some slot)
      sends i l = by (cases_eq i j)
        where
          inside : i < length ds
          inside = subst (λ (k : ℕ). i < k) (length-set ds j _) l

          by : (i ≡ j) ⊎ (i ≢ j)
              → Ex image (device_at left i).number (marks (device_at left i).number) (device_at left i) m i (Some slot)
          by (inl same) =
              rw same
              (subst (λ (e : Device). Ex image e.number (marks e.number) e m j (Some slot))
              (sym (get_or-set_same ds j (record d { waiting = remove d.waiting c.place }) (without_power false 0) there.0))
              starts_here)
          by (inr other) =
              subst (λ (e : Device). Ex image e.number (marks e.number) e m i (Some slot))
              (sym (get_or-set_other ds j i (record d { waiting = remove d.waiting c.place }) (without_power false 0) other))
              (starts_elsewhere i inside other)

      pub device_starts : Good marks left m (Some slot)
      device_starts = record {
        sound = record {
          devices = set_numbers ds j (remove d.waiting c.place) ∙ g.sound.devices;
          nodes = g.sound.nodes;
          manager = g.sound.manager;
          device_frames = set_owns ds j c.place g.sound.device_frames;
          manager_frames = g.sound.manager_frames;
          wire_frame = inr (d.number, (its_node, (at_j.is_number, (w.purpose, own_frame))));
        };
        exchanges = sends;
      }

    -- the frame of the manager starts
    module _ (wins_list : winner_of (contenders_of (manager_sender m.number, m.waiting)) ≡ Some c) where
      abbrev mw : Waiting
      mw = get_or m.waiting c.place none

      abbrev mslot : Slot
      mslot = slot_of t rule bit c.sender mw.frame

      abbrev mleft : Manager
      mleft = record m { waiting = remove m.waiting c.place }

      mwithin : c.place < length m.waiting
      mwithin = place_within (manager_sender m.number) m.waiting c wins_list

      mnode : c.sender ≡ manager_sender roster.manager
      mnode = node_is (manager_sender m.number) m.waiting c wins_list ∙ ap manager_sender g.sound.manager

      mframe : IsManagersFrame roster.manager roster.nodes mw.purpose mw.frame
      mframe =
          subst (λ ns. IsManagersFrame roster.manager ns mw.purpose mw.frame) g.sound.nodes
          (subst (λ k. IsManagersFrame k (numbers_of m.nodes) mw.purpose mw.frame) g.sound.manager
          (All-get_or (λ (w : Waiting). IsManagersFrame m.number (numbers_of m.nodes) w.purpose w.frame) m.waiting
          c.place none mwithin g.sound.manager_frames.frames))

      manager_sends : (i : ℕ) → i < length ds
          → Ex image (device_at ds i).number (marks (device_at ds i).number) (device_at ds i) mleft i (Some mslot)
      manager_sends i l = by (is_unwanted (SdoOf n) mw.purpose) refl
        where
          n : ℕ
          n = (device_at ds i).number

          at : IsAt roster ds m i (device_at ds i).number
          at = stands_at roster is ds m None g.sound i l

          by : (b : Bool) → is_unwanted (SdoOf (device_at ds i).number) mw.purpose ≡ b
              → Ex image (device_at ds i).number (marks (device_at ds i).number) (device_at ds i) mleft i (Some mslot)
          by true to_node =
              request_starts image (device_at ds i).number at.is_number (marks (device_at ds i).number) (device_at ds i)
              (node_at m.nodes i).stage mslot m.waiting c.place none mwithin to_node
              (is_request roster.manager roster.nodes (device_at ds i).number mw.purpose mw.frame mframe to_node) refl
              (g.exchanges i l)
          by false other =
              managers_starts image (device_at ds i).number at.is_number (marks (device_at ds i).number) (device_at ds i)
              (node_at m.nodes i).stage mslot m.waiting c.place none mwithin
              (manager_foreign (device_at ds i).number at.is_number roster.manager is.manager roster.nodes at.others
              mw.purpose mw.frame mframe other)
              other (g.exchanges i l)

      pub manager_starts : Good marks ds mleft (Some mslot)
      manager_starts = record {
        sound = record {
          devices = g.sound.devices;
          nodes = g.sound.nodes;
          manager = g.sound.manager;
          device_frames = g.sound.device_frames;
          manager_frames = manager_sent_owns c.place m g.sound.manager_frames;
          wire_frame = inl (mnode, (mw.purpose, mframe));
        };
        exchanges = manager_sends;
      }

  module _ (t : ℕ) (marks : MarkedEntries) (s : Bus) where
    abbrev GoodBus : Bus → Type 0
    GoodBus b = Good marks b.devices b.manager b.wire

    by_sender : (c : Contender) → winner s.devices s.manager ≡ Some c → Good marks s.devices s.manager None
        → (o : Option ℕ) → o ≡ sender_place c s.devices
        → Good marks (devices_without_winner c o s.devices) (manager_without_winner c o s.manager)
        (Some (slot_of t s.slots s.bit_time c.sender (winning_frame c o s.devices s.manager)))
    unfolding winner
    by_sender c e g (Some j) found = device_starts marks s.devices s.manager g t s.slots s.bit_time c j found
    by_sender c e g None found =
        manager_starts marks s.devices s.manager g t s.slots s.bit_time c
        (manager_contends s.devices s.manager c e (λ k d l. unfound k d l))
      where
        unfound : (k : ℕ) (d : Device) → k < length s.devices → contends_with c (get_or s.devices k d) ≡ false
        unfound k d l = not_found c s.devices (sym found) k d l

    by_winner : (o : Option Contender) → winner s.devices s.manager ≡ o → s.wire ≡ None → GoodBus s
        → GoodBus (with_slot_of t o s)
    by_winner None e idle g = g
    by_winner (Some c) e idle g =
        by_sender c e (subst (λ (w : Option Slot). Good marks s.devices s.manager w) idle g)
        (sender_place c s.devices) refl

    by_wire : (o : Option Slot) → s.wire ≡ o → GoodBus s → GoodBus (after_start_on t o s)
    by_wire None e g = by_winner (winner s.devices s.manager) refl e g
    by_wire (Some busy) e g = g

    pub arbitration_good : GoodBus s → GoodBus (after_arbitration t s)
    unfolding after_arbitration
    arbitration_good g = by_wire s.wire refl g
