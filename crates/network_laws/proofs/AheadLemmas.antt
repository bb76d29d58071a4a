-- The bus ahead of the arbitration of an instant, and the NMT commands that go on the wire there.
use Rattle.std.proofs.Common.{◌≡◌, ℕ, zero, suc, ◌+◌, List, [], ◌∷◌, Some, None, inl, inr, refl, sym, ap, ◌∙◌}
use Rattle.std.proofs.Common.{subst, arith}
use Rattle.std.specs.Prelude.{Contains, slice_get}
use Rattle.std.proofs.lemmas.Bool.{false≢true}
use Rattle.std.proofs.lemmas.List.Elements.{All-contains}
use Rattle.std.proofs.lemmas.Option.{none-some, same_Some}
use Rattle.can_bus.proofs.InstantLemmas.{outcome_delivery, outcome_instant, run_by_events}
use Rattle.can_bus.proofs.NodeLemmas.{outcome_nodes}
use Rattle.can_bus.proofs.SpanLemmas.{bus_next}
use Rattle.can_bus.specs.Bus.{Bus, after_arbitration, after_nodes, ended_slot, instant, waiting_lists}
use Rattle.can_bus.specs.Runs.{StartsWith}
use Rattle.can_bus.specs.Spans.{bus_at}
use Rattle.can_bus.specs.declared.line.Line.{Line}
use Rattle.can_bus.specs.declared.slot.Slot.{Slot}
use Rattle.can_frame.specs.Frames.{BaseFrame}
use Rattle.can_frame.specs.Identifiers.{nmt_id}
use Rattle.can_frame.specs.Senders.{device_sender, manager_sender}
use Rattle.can_frame.specs.declared.contender.Contender.{Contender}
use Rattle.can_frame.specs.declared.purpose.Purpose.{Purpose}
use Rattle.can_frame.specs.declared.purpose.Purpose.TheVariants.{BootUp, Emergency, Heartbeat, Nmt, Sdo, Sync, Time, Tpdo}
use Rattle.can_frame.specs.declared.waiting.Waiting.{Waiting}
use Rattle.cia301.specs.CobIds.{is_restricted}
use Rattle.co_device.specs.Device.{Device}
use Rattle.image_parts.specs.Asking.{outcome}
use Rattle.image_parts.specs.Contents.{Image, roster_of}
use Rattle.image_parts.specs.Images.{IsImage}
use Rattle.image_parts.specs.declared.part.Part.TheVariants as part
use Rattle.image_parts.specs.declared.roster.Roster.{Roster}
use Rattle.network_laws.proofs.FrameStartLemmas.{a_frame_leaves, all_else_stays, is_there}
use Rattle.network_laws.proofs.OwnLemmas.{command_owns, frame_owns, sent_owns, timers_own}
use Rattle.network_laws.proofs.RosterLemmas.{IsOwned, IsSent, two_senders}
use Rattle.network_laws.proofs.RunLemmas.{run_is_good}
use Rattle.network_laws.proofs.ThroughLemmas.{hears_keeps, manager_ahead}
use Rattle.network_laws.specs.Own.{IsOwnFrame}
use Rattle.network_laws.specs.Requests.{HasManagerFrames, IsManagersFrame, numbers_of}
use Rattle.network_laws.specs.Starts.{LeavesItsList, at_arbitration}
use Rattle.nmt_boot.specs.Manager.{Manager}

-- ---- an instant ends with its arbitration

instant_ends : (image : Image) (t : ℕ) (s : Bus)
    → (outcome (instant t s) image).0 ≡ after_arbitration t (at_arbitration image t s)
instant_ends image t s =
    let ran : Bus = run_by_events t s image in
    ap (λ (q : Bus × List Line). q.0)
    (outcome_instant t s image
    ∙ outcome_delivery t ran image
    ∙ ap (after_nodes t ran) (outcome_nodes t (ended_slot t ran.wire) ran.manager ran.devices image))

module _ (image : Image) (t : ℕ) where
  abbrev ahead : Bus
  ahead = at_arbitration image t (bus_at image t)

  pub run_ends : bus_at image (t + 1) ≡ after_arbitration t ahead
  run_ends = bus_next image t ∙ instant_ends image t (bus_at image t)

  -- the arbitration leaves the nodes and the number of the manager
  pub nodes_stay : (bus_at image (t + 1)).manager.nodes ≡ ahead.manager.nodes
  nodes_stay =
      ap (λ (b : Bus). b.manager.nodes) run_ends ∙ ap (λ (b : Bus). b.manager.nodes) (all_else_stays t ahead)

  number_stays : (bus_at image (t + 1)).manager.number ≡ ahead.manager.number
  number_stays =
      ap (λ (b : Bus). b.manager.number) run_ends ∙ ap (λ (b : Bus). b.manager.number) (all_else_stays t ahead)

-- the frames that wait at the manager there are its own
owns_ahead : (image : Image) (t : ℕ) (s : Bus) → HasManagerFrames s.manager
    → HasManagerFrames (at_arbitration image t s).manager
owns_ahead image t s h =
    manager_ahead image t s HasManagerFrames HasManagerFrames HasManagerFrames
    (λ c node m k. command_owns c node m k)
    (hears_keeps image t HasManagerFrames (λ slot m k. frame_owns image t slot.frame m k) (ended_slot t s.wire))
    (λ m k. timers_own t m k)
    (λ m place k. sent_owns place m k)
    h

-- ---- whose frame an NMT command is

-- no device sends one
no_command : (k : ℕ) (p : Purpose) (frame : BaseFrame) → IsOwnFrame k p frame → frame.id ≡ nmt_id → ⊥
unfolding is_restricted
no_command k BootUp frame own e = let id : frame.id ≡ 0x700 + k = ap (λ (f : BaseFrame). f.id) own in omega (arith, id, e)
no_command k Heartbeat frame own e = omega (arith, own.0, e)
no_command k (Tpdo n) frame own e = false≢true (sym own ∙ ap is_restricted e)
no_command k (Sdo node) frame own e = omega (arith, own, e)
no_command k Emergency frame own e = omega (arith, own, e)
no_command k Sync frame own e = own
no_command k Time frame own e = own
no_command k Nmt frame own e = own

of_manager : (roster : Roster) (slot : Slot) → IsSent roster slot → slot.frame.id ≡ nmt_id
    → slot.sender ≡ manager_sender roster.manager
of_manager roster slot (inl own) e = own.0
of_manager roster slot (inr own) e = absurd (no_command own.0 own.1.1.1.0 slot.frame own.1.1.1.1 e)

-- the manager has it for no other purpose
is_nmt : (number : ℕ) (nodes : List ℕ) (p : Purpose) (frame : BaseFrame) → IsManagersFrame number nodes p frame
    → frame.id ≡ nmt_id → p ≡ Nmt
is_nmt number nodes BootUp frame own e = absurd (omega (arith, own.0.0, e))
is_nmt number nodes Heartbeat frame own e = absurd (omega (arith, own.0, e))
is_nmt number nodes (Tpdo k) frame own e = absurd own
is_nmt number nodes (Sdo node) frame own e = absurd (omega (arith, own.1.1, e))
is_nmt number nodes Emergency frame own e = absurd own
is_nmt number nodes Sync frame own e = absurd (omega (arith, own, e))
is_nmt number nodes Time frame own e = absurd (omega (arith, own, e))
is_nmt number nodes Nmt frame own e = refl

-- ---- a frame of the manager that starts waited in its list

managers_list : (ds : List Device) (m : Manager) (frames : List Waiting) (i : ℕ)
    → slice_get (waiting_lists ds m) i ≡ Some (manager_sender m.number, frames) → frames ≡ m.waiting
managers_list [] m frames zero e =
    let there : ℕ × List Waiting = (manager_sender m.number, m.waiting) in
    let found : ℕ × List Waiting = (manager_sender m.number, frames) in
    ap (λ (l : ℕ × List Waiting). l.1) (sym (same_Some there found e))
managers_list [] m frames (suc i) e =
    let found : ℕ × List Waiting = (manager_sender m.number, frames) in
    absurd (none-some found e)
managers_list (d ∷ ds) m frames zero e =
    let there : ℕ × List Waiting = (device_sender d.number, d.waiting) in
    let found : ℕ × List Waiting = (manager_sender m.number, frames) in
    absurd (two_senders d.number m.number (ap (λ (l : ℕ × List Waiting). l.0) (same_Some there found e)))
managers_list (d ∷ ds) m frames (suc i) e = managers_list ds m frames i e

waited_there : (t : ℕ) (b : Bus) (slot : Slot) → b.wire ≡ None → (after_arbitration t b).wire ≡ Some slot
    → slot.sender ≡ manager_sender b.manager.number
    → (w : Waiting) × (Contains b.manager.waiting w × (w.frame ≡ slot.frame))
waited_there t b slot idle starts own =
    let won = a_frame_leaves t b slot idle starts in
    let c : Contender = won.0 in
    let w : Waiting = won.1.0 in
    let started : StartsWith t b slot c w = won.1.1.0 in
    let leaves : LeavesItsList c w (waiting_lists b.devices b.manager)
    (waiting_lists (after_arbitration t b).devices (after_arbitration t b).manager) = won.1.1.1 in
    let sender : c.sender ≡ manager_sender b.manager.number = sym (ap (λ (x : Slot). x.sender) started.is) ∙ own in
    let listed : slice_get (waiting_lists b.devices b.manager) leaves.number
    ≡ Some (manager_sender b.manager.number, leaves.frames) =
    subst (λ (n : ℕ). slice_get (waiting_lists b.devices b.manager) leaves.number ≡ Some (n, leaves.frames)) sender
    leaves.its_list in
    let same : leaves.frames ≡ b.manager.waiting =
    managers_list b.devices b.manager leaves.frames leaves.number listed in
    let at : slice_get b.manager.waiting c.place ≡ Some w =
    subst (λ (ws : List Waiting). slice_get ws c.place ≡ Some w) same leaves.its_place in
    (w, (is_there b.manager.waiting c.place w at, sym (ap (λ (x : Slot). x.frame) started.is)))

-- ---- and so did each NMT command that starts in a run

pub sent_waited : (image : Image) → IsImage image → (t : ℕ) (slot : Slot)
    → (at_arbitration image t (bus_at image t)).wire ≡ None → (bus_at image (t + 1)).wire ≡ Some slot
    → slot.frame.id ≡ nmt_id
    → (w : Waiting) × (Contains (at_arbitration image t (bus_at image t)).manager.waiting w
    × ((w.purpose ≡ Nmt) × (w.frame ≡ slot.frame)))
sent_waited image is t slot idle starts command =
    let roster : Roster = roster_of (image part.Roster) in
    let b : Bus = at_arbitration image t (bus_at image t) in
    let m : Manager = b.manager in
    let sent : IsSent roster slot = subst (IsOwned roster) starts (run_is_good image is (t + 1)).sound.wire_frame in
    let number : roster.manager ≡ m.number =
    sym (run_is_good image is (t + 1)).sound.manager ∙ number_stays image t in
    let here : (w : Waiting) × (Contains m.waiting w × (w.frame ≡ slot.frame)) =
    waited_there t b slot idle (sym (ap (λ (x : Bus). x.wire) (run_ends image t)) ∙ starts)
    (of_manager roster slot sent command ∙ ap manager_sender number) in
    let own : IsManagersFrame m.number (numbers_of m.nodes) here.0.purpose here.0.frame =
    All-contains (λ (v : Waiting). IsManagersFrame m.number (numbers_of m.nodes) v.purpose v.frame) m.waiting here.0
    (owns_ahead image t (bus_at image t) (run_is_good image is t).sound.manager_frames).frames here.1.0 in (
      here.0,
      (
        here.1.0,
        (
          is_nmt m.number (numbers_of m.nodes) here.0.purpose here.0.frame own
              (ap (λ (f : BaseFrame). f.id) here.1.1 ∙ command),
          here.1.1,
        ),
      ),
    )
